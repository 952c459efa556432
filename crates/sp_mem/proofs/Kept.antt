-- What fits still fits when more is added.
use Rattle.std.proofs.Common.{ℕ, List, [], All, Option}
use Rattle.std.specs.Prelude.{Some, None}
use Rattle.sp_netlist.specs.Draft.{Draft}
use Rattle.sp_gates.specs.Grows.{Grows, Fills}
use Rattle.sp_gates.specs.Nets.{HasNet}
use Rattle.sp_gates.proofs.Growing.{HasNet-stays}
use Rattle.sp_mem.specs.declared.part.Fresh.{Fresh}
use Rattle.sp_mem.specs.declared.part.Touch.{Touch}
use Rattle.sp_mem.specs.declared.part.Register.{Register}
use Rattle.sp_words.specs.Types.{width_of}
use Rattle.sp_mem.proofs.Waiting.{awaits_kept}
use Rattle.sp_mem.specs.Fits.{CopyFits, FreshFits, WriteFits, RegisterFits}

module _ (a b : Draft) (g : Grows a b) where
  pub copy_kept : (copy : Option ℕ) → CopyFits a copy → CopyFits b copy
  copy_kept None h = h
  copy_kept (Some net) h = HasNet-stays a b net 32 g h

  pub fresh_kept : (fs : List Fresh) → All (FreshFits a) fs → All (FreshFits b) fs
  fresh_kept fs h = λ k d l. let was = h k d l in record { enable = HasNet-stays a b _ 1 g was.enable; copy = copy_kept _ was.copy }

  pub writes_kept : (width : ℕ) (ws : List Touch) → All (WriteFits a width) ws → All (WriteFits b width) ws
  writes_kept width ws h = λ k d l. let was = h k d l in record {
    enable = HasNet-stays a b _ 1 g was.enable;
    copy = copy_kept _ was.copy;
    word = HasNet-stays a b _ width g was.word;
  }

  pub nets_kept : (width : ℕ) (nets : List ℕ) → All (λ net. HasNet a net width) nets → All (λ net. HasNet b net width) nets
  nets_kept width nets h = λ k d l. HasNet-stays a b _ width g (h k d l)

pub register_kept : (a b : Draft) (part : Register) → Fills a b [] → RegisterFits a part → RegisterFits b part
register_kept a b part f h = record {
  start = HasNet-stays a b part.start 1 f.grows h.start;
  copies = h.copies;
  first = h.first;
  fresh = fresh_kept a b f.grows part.fresh.items h.fresh;
  writes = writes_kept a b f.grows (width_of part.ty) part.writes.items h.writes;
  reads = λ k d l. let was = h.reads k d l in record { copy = copy_kept a b f.grows _ was.copy; word = awaits_kept a b _ _ f was.word };
  apart = h.apart;
}
