-- The core of a program ends in lanes as it does.
use Rattle.std.proofs.Common.{◌≡◌, ◌⊎◌, inl, inr, ℕ, Bool, true, false, not, ◌||◌, List, [], ◌∷◌, ◌++◌, length, Some, None, refl, sym, ◌∙◌, ap, subst, arith}
use Rattle.sp_tree.specs.Invariant.{IsProgram}
use Rattle.sp_tree.specs.PlainProgram.{PlainProgram}
use Rattle.sp_core.specs.Declarations.{is_among}
use Rattle.sp_core.specs.Footprint.{ListNames}
use Rattle.sp_core.specs.PlainCore.{PlainOp, PlainNode, PlainStages, inner, outer, fsm, branch, load, store, sparse, no_stage, more_stage}
use Rattle.sp_sugar.specs.Core.{core_of}
use Rattle.sp_lane_cores.specs.LanedMarks.{Combination, element, combination_ops, is_other, NoneCombines}
use Rattle.sp_lane_cores.specs.EndingsEnding.{EndsIn, LastEnds, IsEnded, AreEnded}
use Rattle.sp_lane_cores.proofs.EndingsAlike.{same_others, same_two, same_word}
use Rattle.sp_sugar.specs.Combination.{element_counters}
use Rattle.sp_lane_trees.specs.ElementsReduction.{CombinesElements, LastElements}
use Rattle.sp_lane_trees.specs.ReductionsReduction.{AreStill, IsReduction, LastCombinesWord, LastReduces}
use Rattle.sp_lane_trees.specs.ReductionsChanges.{StagesChange}
use Rattle.sp_lane_trees.specs.Outcomes.{ProgramGoes}
use Rattle.sp_lane_trees.specs.Words.{CombinesWords, CombineWords}
use Rattle.sp_lane_programs.specs.ProgramsLaws.{ProgramEnds}
use Rattle.sp_lane_programs.proofs.ProgramsElements.{HasElements, LastElementsFront}
use Rattle.sp_lane_programs.proofs.ProgramsFronts.{HasFront, LastFront, KeepsFront, FrontNode, FrontStages, program_front}

-- two lists in two parts, of which the first ones are as long
parts_same : {A : Type 0} (xs ys r s : List A) → length xs ≡ length ys → xs ++ r ≡ ys ++ s → (xs ≡ ys) × (r ≡ s)
parts_same [] [] r s n e = (refl, e)
parts_same [] (y ∷ ys) r s n e = absurd (omega (arith, n))
parts_same (x ∷ xs) [] r s n e = absurd (omega (arith, n))
parts_same {A = A} (x ∷ xs) (y ∷ ys) r s n e =
    let rest = parts_same xs ys r s (omega (arith, n)) (ap tail e) in
    (ap (λ l. x ∷ l) rest.0 ∙ ap (λ a. a ∷ ys) same, rest.1)
  where
    tail : List A → List A
    tail [] = []
    tail (a ∷ l) = l

    head : List A → A
    head [] = x
    head (a ∷ l) = a

    same : x ≡ y
    same = ap head e

-- the parts of an inner body
ops_in : PlainNode → List PlainOp
ops_in (inner counters owned ops comb) = ops
ops_in x = []

mark_in : PlainNode → ℕ
mark_in (inner counters owned ops (Some at)) = at
mark_in x = 0

module _ (p : PlainProgram) where
  one_reduces : (owned : List ℕ) (is : ℕ → Bool) (x : PlainNode) (ops : List PlainOp) (at : ℕ) (c : Combination) → x ≡ inner [] [] ops (Some at) → is_other c ≡ is → EndsIn (core_of p) owned ops at c → (kept : ℕ → Bool) (h : HasFront p owned kept x) → h.ops ≡ ops → h.at ≡ at → IsReduction (core_of p) owned is kept x
  one_reduces owned is x ops at c same others ends kept h same_ops same_at =
      let both : h.front ++ combination_ops at h.combination ≡ ends.combined.before ++ combination_ops at c =
      ap (λ a. h.front ++ combination_ops a h.combination) (sym same_at) ∙ sym h.list ∙ same_ops ∙ ends.combined.is in
      let q = parts_same h.front ends.combined.before (combination_ops at h.combination) (combination_ops at c) (h.place ∙ same_at ∙ sym ends.combined.place) both in
      record {
        ops = ops;
        at = at;
        combination = c;
        node_is = same;
        one_word = same_word at h.combination c q.1 h.one_word;
        others = others;
        ends = ends;
        still = subst AreStill q.0 h.still;
        own = subst (ListNames (core_of p) (λ m. is_among m owned || kept m)) q.0 h.own;
      }

  last_reduces : (owned : List ℕ) (is kept : ℕ → Bool) (xs : PlainStages) → LastEnds (core_of p) owned is xs → LastFront p owned kept xs → StagesChange (core_of p) (λ m. not (kept m)) xs → LastCombinesWord (core_of p) owned is kept xs
  unfolding ops_in mark_in
  last_reduces owned is kept no_stage h f g = absurd h
  last_reduces owned is kept (more_stage first last false x rest) h f g = (h.0, g.0, last_reduces owned is kept rest h.1 f g.1)
  last_reduces owned is kept (more_stage first last true (inner counters own ops (Some at)) no_stage) h f g =
      let k : HasFront p owned kept (inner counters own ops (Some at)) = f.0 in
      let same_ops : k.ops ≡ ops = sym (ap ops_in k.node_is) in
      let same_at : k.at ≡ at = sym (ap mark_in k.node_is) in
      one_reduces owned is (inner counters own ops (Some at)) ops at h.2.0 (k.node_is ∙ ap (λ o. inner [] [] o (Some k.at)) same_ops ∙ ap (λ a. inner [] [] ops (Some a)) same_at) h.2.1 h.2.2 kept k same_ops same_at
  last_reduces owned is kept (more_stage first last true (inner counters own ops (Some at)) (more_stage f l c n rest)) h k g = absurd h
  last_reduces owned is kept (more_stage first last true (inner counters own ops None) rest) h f g = absurd h
  last_reduces owned is kept (more_stage first last true (outer counters style own xs) rest) h f g = absurd h
  last_reduces owned is kept (more_stage first last true (fsm start state test body next) rest) h f g = absurd h
  last_reduces owned is kept (more_stage first last true (branch test one two) rest) h f g = absurd h
  last_reduces owned is kept (more_stage first last true (load d m spans) rest) h f g = absurd h
  last_reduces owned is kept (more_stage first last true (store d m spans) rest) h f g = absurd h
  last_reduces owned is kept (more_stage first last true (sparse kind d m index spans count par) rest) h f g = absurd h

  one_combines : (owned : List ℕ) (is : ℕ → Bool) (x : PlainNode) (ops : List PlainOp) (at : ℕ) (c : Combination) → is_other c ≡ is → EndsIn (core_of p) owned ops at c → (h : HasElements p owned x) → x ≡ inner (element_counters h.counter h.sizes) [] ops (Some at) → h.ops ≡ ops → h.at ≡ at → CombinesElements (core_of p) owned is x
  one_combines owned is x ops at c others ends h same same_ops same_at =
      let d : Combination = element h.mems h.word h.counter h.sizes h.acc h.begun h.ty h.comb in
      let both : h.front ++ combination_ops at d ≡ ends.combined.before ++ combination_ops at c =
      ap (λ a. h.front ++ combination_ops a d) (sym same_at) ∙ sym h.list ∙ same_ops ∙ ends.combined.is in
      let q = parts_same h.front ends.combined.before (combination_ops at d) (combination_ops at c) (h.place ∙ same_at ∙ sym ends.combined.place) both in
      let tests : is_other d ≡ is_other c = same_others at c d (sym q.1) in
      record {
        mems = h.mems;
        word = h.word;
        counter = h.counter;
        sizes = h.sizes;
        acc = h.acc;
        begun = h.begun;
        ty = h.ty;
        comb = h.comb;
        ops = ops;
        at = at;
        node_is = same;
        tests = tests ∙ others;
        ends = record {
          combined = record {
            before = ends.combined.before;
            place = ends.combined.place;
            is = ends.combined.is ∙ ap (λ xs. ends.combined.before ++ xs) (sym q.1);
            apart = subst (λ (f : ℕ → Bool). ListNames (core_of p) f ends.combined.before) (sym tests) ends.combined.apart;
          };
          two = same_two at c d (sym q.1) ends.two;
          earlier = ends.earlier;
          others = λ m i. ap (λ (f : ℕ → Bool). f m) tests ∙ ends.others m i;
        };
        still = subst AreStill q.0 h.still;
        own = subst (ListNames (core_of p) (λ m. is_among m owned)) q.0 h.own;
        counts = h.counted;
        sram = h.sram;
        sized = h.sized;
      }

  last_elements : (owned : List ℕ) (is : ℕ → Bool) (xs : PlainStages) → LastEnds (core_of p) owned is xs → LastElementsFront p owned xs → LastElements (core_of p) owned is xs
  unfolding ops_in mark_in
  last_elements owned is no_stage h f = absurd h
  last_elements owned is (more_stage first last false x rest) h f = (h.0, last_elements owned is rest h.1 f)
  last_elements owned is (more_stage first last true (inner counters own ops (Some at)) no_stage) h f =
      let k : HasElements p owned (inner counters own ops (Some at)) = f.0 in
      let same_ops : k.ops ≡ ops = sym (ap ops_in k.node_is) in
      let same_at : k.at ≡ at = sym (ap mark_in k.node_is) in
      one_combines owned is (inner counters own ops (Some at)) ops at h.2.0 h.2.1 h.2.2 k
      (k.node_is ∙ ap (λ o. inner (element_counters k.counter k.sizes) [] o (Some k.at)) same_ops ∙ ap (λ a. inner (element_counters k.counter k.sizes) [] ops (Some a)) same_at) same_ops same_at
  last_elements owned is (more_stage first last true (inner counters own ops (Some at)) (more_stage f l c n rest)) h k = absurd h
  last_elements owned is (more_stage first last true (inner counters own ops None) rest) h f = absurd h
  last_elements owned is (more_stage first last true (outer counters style own xs) rest) h f = absurd h
  last_elements owned is (more_stage first last true (fsm start state test body next) rest) h f = absurd h
  last_elements owned is (more_stage first last true (branch test one two) rest) h f = absurd h
  last_elements owned is (more_stage first last true (load d m spans) rest) h f = absurd h
  last_elements owned is (more_stage first last true (store d m spans) rest) h f = absurd h
  last_elements owned is (more_stage first last true (sparse kind d m index spans count par) rest) h f = absurd h

  loop_reduces : (owned : List ℕ) (xs : PlainStages) (lanes : ℕ) → NoneCombines (core_of p) xs ⊎ ((is : ℕ → Bool) × LastEnds (core_of p) owned is xs) → (lanes ≡ 1) ⊎ (KeepsFront p owned xs ⊎ LastElementsFront p owned xs)
      → (lanes ≡ 1) ⊎ (NoneCombines (core_of p) xs ⊎ ((is : ℕ → Bool) × (LastReduces (core_of p) owned is xs ⊎ LastElements (core_of p) owned is xs)))
  loop_reduces owned xs lanes h (inl one) = inl one
  loop_reduces owned xs lanes (inl none) (inr f) = inr (inl none)
  loop_reduces owned xs lanes (inr (is, h)) (inr (inl f)) = inr (inr (is, inl (f.0, last_reduces owned is f.0 xs h f.1 f.2)))
  loop_reduces owned xs lanes (inr (is, h)) (inr (inr f)) = inr (inr (is, inr (last_elements owned is xs h f)))

  mutual
    node_words : (x : PlainNode) → IsEnded (core_of p) x → FrontNode p x → CombinesWords (core_of p) x
    node_words (inner counters owned ops comb) h f = tt
    node_words (outer counters style owned xs) h f = (loop_reduces owned xs _ h.0 f.0, stages_words xs h.1 f.1)
    node_words (fsm start state test body next) h f = node_words body h f
    node_words (branch test first second) h f = (node_words first h.0 f.0, node_words second h.1 f.1)
    node_words (load d m spans) h f = tt
    node_words (store d m spans) h f = tt
    node_words (sparse kind d m index spans count par) h f = tt

    stages_words : (xs : PlainStages) → AreEnded (core_of p) xs → FrontStages p xs → CombineWords (core_of p) xs
    stages_words no_stage h f = tt
    stages_words (more_stage first last true x rest) h f = stages_words rest h.2 f
    stages_words (more_stage first last false x rest) h f = (node_words x h.2 f.0, stages_words rest h.3 f.1)

pub program_ends : (p : PlainProgram) → IsEnded (core_of p) (core_of p).root → ProgramGoes p → IsProgram p → ProgramEnds p
program_ends p ends goes h = goes (node_words p (core_of p).root ends (program_front p h))
