-- Sites, node by node.
use Rattle.std.proofs.Common.{◌≡◌, ◌≢◌, ℕ, zero, suc, ◌+◌, ◌-◌, ◌<◌, ◌≤◌, ltb, Bool, false, cond, List, Option, length, arith, ap, refl, sym, ◌∙◌, lt-ltb, le-ltb}
use Rattle.sp_core.specs.Declarations.{is_stream}
use Rattle.sp_core.specs.Numbering.{node_count, counters_size, number_count}
use Rattle.sp_core.specs.PlainCore.{PlainOp, PlainCounter, PlainNode, PlainStages, outer, fsm, branch}
use Rattle.sp_plan.specs.Nodes.{Site, site_at, stage_site_at}
use Rattle.sp_words.specs.declared.kind.Style.{Style}

-- by equations for what the code computes
pub site_in_outer : (w n m : ℕ) (streamed : Bool) (counters : List PlainCounter) (style : Style) (owned : List ℕ) (stages given : PlainStages) (node : PlainNode) → node ≡ outer counters style owned stages → w ≢ 0 → m ≡ n + counters_size counters → given ≡ stages →
    stage_site_at (w - 1) m (is_stream style) given ≡ site_at w n streamed node
site_in_outer zero n m streamed counters style owned stages given node is h e g = absurd (h refl)
site_in_outer (suc k) n m streamed counters style owned stages given node is h e g =
    let a : suc k - 1 ≡ k = omega arith in
    ap (λ x. stage_site_at x m (is_stream style) given) a ∙ ap (λ x. stage_site_at k x (is_stream style) given) e
    ∙ ap (stage_site_at k (n + counters_size counters) (is_stream style)) g ∙ ap (site_at (suc k) n streamed) (sym is)

pub site_in_fsm : (w n m : ℕ) (streamed : Bool) (start : List PlainOp) (state : ℕ) (test : List PlainOp) (body : PlainNode) (next : List PlainOp) (node : PlainNode) → node ≡ fsm start state test body next → w ≢ 0 → m ≡ n + (length start + length test) →
    site_at (w - 1) m false body ≡ site_at w n streamed node
site_in_fsm zero n m streamed start state test body next node is h e = absurd (h refl)
site_in_fsm (suc k) n m streamed start state test body next node is h e =
    let a : suc k - 1 ≡ k = omega arith in
    ap (λ x. site_at x m false body) a ∙ ap (λ x. site_at k x false body) e ∙ ap (site_at (suc k) n streamed) (sym is)

if_less : (k m : ℕ) (a b : Option Site) → k < m → cond (ltb k m) a b ≡ a
if_less k m a b h = ap (λ t. cond t a b) (lt-ltb k m h)

if_not_less : (k m : ℕ) (a b : Option Site) → m ≤ k → cond (ltb k m) a b ≡ b
if_not_less k m a b h = ap (λ t. cond t a b) (le-ltb k m h)

module _ (w n : ℕ) (streamed : Bool) (test : List PlainOp) (first second : PlainNode) (node : PlainNode) where
  here : (k : ℕ) → w ≡ suc k → node ≡ branch test first second →
      site_at w n streamed node ≡ cond (ltb k (node_count first)) (site_at k (n + length test) false first) (site_at (k - node_count first) ((n + length test) + number_count first) false second)
  here k e is = ap (site_at w n streamed) is ∙ ap (λ x. site_at x n streamed (branch test first second)) e

  pub site_in_first : (m c : ℕ) → node ≡ branch test first second → w ≢ 0 → m ≡ n + length test → c ≡ node_count first → w - 1 < c → site_at (w - 1) m false first ≡ site_at w n streamed node
  site_in_first m c is h e f less =
      ap (λ x. site_at (w - 1) x false first) e
      ∙ sym (if_less (w - 1) (node_count first) _ _ (omega arith))
      ∙ sym (here (w - 1) (omega arith) is)

  pub site_in_second : (m c : ℕ) → node ≡ branch test first second → w ≢ 0 → m ≡ n + length test → c ≡ node_count first → c ≤ w - 1 →
      site_at ((w - 1) - c) (m + number_count first) false second ≡ site_at w n streamed node
  site_in_second m c is h e f less =
      ap (λ x. site_at ((w - 1) - x) (m + number_count first) false second) f
      ∙ ap (λ x. site_at ((w - 1) - node_count first) (x + number_count first) false second) e
      ∙ sym (if_not_less (w - 1) (node_count first) _ _ (omega arith))
      ∙ sym (here (w - 1) (omega arith) is)
