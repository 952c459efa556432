-- How the reading of a setup ends, by the part that ends it.
use Rattle.std.proofs.Common.{◌≡◌, ℕ, List, [], None, inl, inr}
use Rattle.toml.specs.Data.{Members}
use Rattle.sp_edges.specs.Standing.{Standing}
use Rattle.sp_edges.specs.Calls.{Call}
use Rattle.sp_words.specs.Ports.{PlainPorts}
use Rattle.sp_setup.specs.declared.error.SetupEnd.{SetupEnd}
use Rattle.sp_setup.specs.declared.error.SetupEnd.TheVariants.{Refused, ReadFault, TooLong, Memory}
use Rattle.sp_setup.specs.Refusal.{IsRefusal}
use Rattle.sp_setup.specs.Checks.{table_check, dram_section}
use Rattle.sp_setup.specs.Drams.{DramsEnd}
use Rattle.sp_setup.specs.Setup.{IsDocument, DocumentEnds, SetupEnds}

pub ends-document : (told : List ℕ → Standing) (failed : List ℕ → Type 0) (asked : List Call → Type 0) (ports : PlainPorts) (bytes : List ℕ) (end : SetupEnd) → asked [] → DocumentEnds bytes end
    → SetupEnds told failed asked ports bytes end
ends-document told failed asked ports bytes (Refused e) none is = inl (none, inl is)
ends-document told failed asked ports bytes ReadFault none is = absurd is
ends-document told failed asked ports bytes (TooLong name) none is = absurd is
ends-document told failed asked ports bytes Memory none is = inl none

pub ends-table : (told : List ℕ → Standing) (failed : List ℕ → Type 0) (asked : List Call → Type 0) (ports : PlainPorts) (bytes : List ℕ) (end : SetupEnd) (top : Members)
    → asked [] → IsDocument bytes top → IsRefusal (table_check ports top) end → SetupEnds told failed asked ports bytes end
ends-table told failed asked ports bytes (Refused e) top none document is = inl (none, inr (record { top = top; document = document; refuses = is }))
ends-table told failed asked ports bytes ReadFault top none document is = absurd is
ends-table told failed asked ports bytes (TooLong name) top none document is = absurd is
ends-table told failed asked ports bytes Memory top none document is = inl none

pub ends-file : (told : List ℕ → Standing) (failed : List ℕ → Type 0) (asked : List Call → Type 0) (ports : PlainPorts) (bytes : List ℕ) (end : SetupEnd) (top : Members)
    → IsDocument bytes top → table_check ports top ≡ None → DramsEnd told failed asked (dram_section top) ports.drams end → SetupEnds told failed asked ports bytes end
ends-file told failed asked ports bytes (Refused e) top document passes is = inr (record { top = top; document = document; passes = passes; ends = is })
ends-file told failed asked ports bytes ReadFault top document passes is = record { top = top; document = document; passes = passes; ends = is }
ends-file told failed asked ports bytes (TooLong name) top document passes is = record { top = top; document = document; passes = passes; ends = is }
ends-file told failed asked ports bytes Memory top document passes is = inr (record { top = top; document = document; passes = passes; ends = is })
