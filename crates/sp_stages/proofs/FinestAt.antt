-- Finest slots of a body, by equal parts, and of the node of a number.
use Rattle.std.proofs.Common.{◌≡◌, ℕ, ◌+◌, Bool, true, false, List, Some, Result, Ok, Err, IfOk, sym, subst}
use Rattle.sp_core.specs.declared.access.Meet.{Meet}
use Rattle.sp_core.specs.Declarations.{is_stream}
use Rattle.sp_core.specs.Numbering.{counters_size}
use Rattle.sp_core.specs.PlainCore.{PlainCounter, PlainStages, outer, PlainCore}
use Rattle.sp_plan.specs.Nodes.{Site, site_at}
use Rattle.sp_plan.specs.Slots.{StageRun, runs_of}
use Rattle.sp_stages.specs.Divided.{slots_of}
use Rattle.sp_stages.specs.Finest.{are_in_place, AreFinestSlots}
use Rattle.sp_stages.specs.Plans.{AreFinestIn, AreFinestOf, AreFinestAt, AreFinestSlotsOf}
use Rattle.sp_stages.proofs.FinestSlots.{slots_are_finest}
use Rattle.sp_words.specs.declared.kind.Style.{Style}

pub ok_like : {A E : Type 0} (P Q : A → Type 0) → ((x : A) → P x → Q x) → (r : Result A E) → IfOk r P → IfOk r Q
ok_like P Q h (Ok x) p = h x p
ok_like P Q h (Err e) p = tt

pub finest_in : (core : PlainCore) (meets : List Meet) (b : Bool) (counters : List PlainCounter) (style : Style) (owned : List ℕ) (runs : List StageRun) (slots : List ℕ) → b ≡ false → are_in_place runs ≡ true → slots ≡ slots_of core meets counters style owned runs → AreFinestIn core meets b counters style owned runs slots
finest_in core meets true counters style owned runs slots e h is = absurd (cc)
finest_in core meets false counters style owned runs slots e h is = subst (AreFinestSlots core meets counters style owned runs) (sym is) (slots_are_finest core meets counters style owned runs h)

pub same_body : (core : PlainCore) (style : Style) (slots : List ℕ) (m : List Meet) (n : List Meet) (c d : List PlainCounter) (o p : List ℕ) (r s : List StageRun) → m ≡ n → c ≡ d → o ≡ p → r ≡ s → AreFinestIn core m (is_stream style) c style o r slots → AreFinestIn core n (is_stream style) d style p s slots
same_body core style slots m n c d o p r s em ec eo er h =
    subst (λ x. AreFinestIn core x (is_stream style) d style p s slots) em
    (subst (λ x. AreFinestIn core m (is_stream style) x style p s slots) ec
    (subst (λ x. AreFinestIn core m (is_stream style) c style x s slots) eo
    (subst (λ x. AreFinestIn core m (is_stream style) c style o x slots) er h)))

pub finest_at : (core : PlainCore) (meets : List Meet) (k : ℕ) (s : Site) (counters : List PlainCounter) (style : Style) (owned : List ℕ) (stages : PlainStages) (slots : List ℕ) → site_at k 0 false core.root ≡ Some s → s.node ≡ outer counters style owned stages → AreFinestIn core meets (is_stream style) counters style owned (runs_of (s.number + counters_size counters) stages) slots → AreFinestSlotsOf core meets k slots
finest_at core meets k s counters style owned stages slots at is h =
    subst (λ x. AreFinestAt core meets x slots) (sym at) (subst (λ n. AreFinestOf core meets s n slots) (sym is) h)
