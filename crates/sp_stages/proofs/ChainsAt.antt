-- Finest chains of a body, by equal parts, and of the node of a number.
use Rattle.std.proofs.Common.{◌≡◌, ℕ, ◌+◌, Bool, true, false, List, Some, sym, subst}
use Rattle.sp_core.specs.declared.access.Meet.{Meet}
use Rattle.sp_core.specs.Declarations.{is_stream}
use Rattle.sp_core.specs.Numbering.{counters_size}
use Rattle.sp_core.specs.PlainCore.{PlainCounter, PlainStages, outer, PlainCore}
use Rattle.sp_plan.specs.Nodes.{Site, site_at}
use Rattle.sp_plan.specs.Slots.{StageRun, runs_of}
use Rattle.sp_stages.specs.Chains.{chains_of}
use Rattle.sp_stages.specs.Finest.{AreFinestChains}
use Rattle.sp_stages.specs.Plans.{AreFinestChainsIn, AreFinestChainsFrom, AreFinestChainsAt, AreFinestChainsOf}
use Rattle.sp_stages.proofs.FinestChains.{chains_are_finest}
use Rattle.sp_words.specs.declared.kind.Style.{Style}

module _ (core : PlainCore) where
  pub chains_in : (meets : List Meet) (slots : List ℕ) (b : Bool) (counters : List PlainCounter) (style : Style) (owned : List ℕ) (runs : List StageRun) (chains : List ℕ) → b ≡ false → chains ≡ chains_of core meets counters style runs slots → AreFinestChainsIn core meets slots b counters style owned runs chains
  chains_in meets slots true counters style owned runs chains e is = absurd (cc)
  chains_in meets slots false counters style owned runs chains e is = subst (AreFinestChains core meets counters style owned runs slots) (sym is) (chains_are_finest core meets counters style owned runs slots)

  pub chains_of_body : (slots : List ℕ) (style : Style) (owned chains : List ℕ) (m n : List Meet) (c d : List PlainCounter) (r s : List StageRun) → m ≡ n → c ≡ d → r ≡ s → AreFinestChainsIn core m slots (is_stream style) c style owned r chains → AreFinestChainsIn core n slots (is_stream style) d style owned s chains
  chains_of_body slots style owned chains m n c d r s em ec er h =
      subst (λ x. AreFinestChainsIn core x slots (is_stream style) d style owned s chains) em
      (subst (λ x. AreFinestChainsIn core m slots (is_stream style) x style owned s chains) ec
      (subst (λ x. AreFinestChainsIn core m slots (is_stream style) c style owned x chains) er h))

  pub chains_at : (meets : List Meet) (slots : List ℕ) (k : ℕ) (s : Site) (counters : List PlainCounter) (style : Style) (owned : List ℕ) (stages : PlainStages) (chains : List ℕ) → site_at k 0 false core.root ≡ Some s → s.node ≡ outer counters style owned stages → AreFinestChainsIn core meets slots (is_stream style) counters style owned (runs_of (s.number + counters_size counters) stages) chains → AreFinestChainsOf core meets slots k chains
  chains_at meets slots k s counters style owned stages chains at is h =
      subst (λ x. AreFinestChainsAt core meets slots x chains) (sym at) (subst (λ n. AreFinestChainsFrom core meets slots s n chains) (sym is) h)
