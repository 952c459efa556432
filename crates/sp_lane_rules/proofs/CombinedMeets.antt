-- The words of lanes that meet an accumulator in order keep the rules of cores.
use Rattle.std.proofs.Common.{◌≡◌, ℕ, suc, ◌+◌, ◌-◌, ◌≤◌, ◌⊎◌, inl, inr, true, false, cond, ◌||◌, List, [], ◌∷◌, ◌++◌, length, take, drop, Some, None, refl, sym, ◌∙◌, ap, subst, arith}
use Rattle.std.proofs.lemmas.Bool.{and_from, or_right}
use Rattle.std.proofs.lemmas.List.{append_assoc, length-append}
use Rattle.std.specs.List.{list_any}
use Rattle.std.specs.Prelude.{if◌then◌else◌, slice_index}
use Rattle.sp_words.specs.declared.kind.BinOp.{BinOp}
use Rattle.sp_words.specs.declared.types.Ty.{Ty}
use Rattle.sp_words.specs.declared.types.Ty.TheVariants.{Bit}
use Rattle.sp_core.specs.declared.operation.OpKind.TheVariants.{Two}
use Rattle.sp_core.specs.Around.{Around}
use Rattle.sp_core.specs.OperationRules.{are_operations_right_after}
use Rattle.sp_core.specs.PlainCore.{PlainOp, PlainCore}
use Rattle.sp_core.specs.Typed.{Given, is_comparison, given_type, is_given, gives}
use Rattle.sp_lanes.specs.Bodies.{Body, no_op}
use Rattle.sp_lanes.specs.Combined.{Meeting, takes, count_up_to, is_choice, moved_place, met_ops, without_first, first_place, first_places, last_op, meeting_in_order, in_order}
use Rattle.sp_lanes.specs.Joined.{LaneWord, lane_words, join_ops}
use Rattle.sp_lane_rules.specs.UnrolledMeetings.{given_of}
use Rattle.sp_lane_rules.proofs.UnrolledGivens.{given_append, given_length, placed_gives, after_both, gives_kept, gives_end}
use Rattle.sp_lane_rules.proofs.UnrolledLaneBodies.{AllPlaced}

-- words that stand, each with its mask
abbrev pub AreMet : Given → Ty → List LaneWord → Type 0
AreMet g ty [] = Unit {0}
AreMet g ty (w ∷ words) = (gives g w.place ty ≡ true) × (gives g (elim w.mask as (λ _. ℕ) [ Some mask ↦ mask | None ↦ 0 ]) Bit ≡ true) × AreMet g ty words

pub met_more : (g x : Given) (ty : Ty) (words : List LaneWord) → AreMet g ty words → AreMet (g ++ x) ty words
met_more g x ty [] h = tt
met_more g x ty (w ∷ words) h = (gives_kept g x w.place ty h.0, gives_kept g x (elim w.mask as (λ _. ℕ) [ Some mask ↦ mask | None ↦ 0 ]) Bit h.1, met_more g x ty words h.2)

pub met_without : (g : Given) (ty : Ty) (words : List LaneWord) → AreMet g ty words → AreMet g ty (without_first words)
met_without g ty [] h = tt
met_without g ty (w ∷ words) h = h.2

-- those of the bodies of lanes
pub bodies_met : (g : Given) (ty : Ty) (l word : ℕ) (body : List PlainOp) (bodies : List Body) → AllPlaced g body bodies → gives (given_of body) word ty ≡ true → AreMet g ty (lane_words l word bodies)
bodies_met g ty l word body [] h e = tt
bodies_met g ty l word body (b ∷ bodies) h e = (placed_gives g b.places (given_of body) word ty h.1 e, ap (λ o. is_given o Bit) h.0.1, bodies_met g ty (suc l) word body bodies h.2 e)

pub whole : (g : Given) (xs ys : List PlainOp) → (g ++ given_of xs) ++ given_of ys ≡ g ++ given_of (xs ++ ys)
whole g xs ys = append_assoc g (given_of xs) (given_of ys) ∙ ap (λ (x : Given). g ++ x) (sym (given_append xs ys))

module _ (lanes : PlainCore) (inside : Around) (counter : ℕ) (operator : BinOp) (ty : Ty) (plain : is_comparison operator ≡ false) where
  -- the operator and the choice
  join_right : (at mask left right : ℕ) (g : Given) → at ≡ length g → gives g mask Bit ≡ true → gives g left ty ≡ true → gives g right ty ≡ true
      → (are_operations_right_after lanes inside g (join_ops counter operator ty at mask left right) ≡ true)
      × (gives (g ++ given_of (join_ops counter operator ty at mask left right)) (at + 1) ty ≡ true)
  join_right at mask left right g same m a b = (
    and_from _ _ (and_from _ _ refl (and_from _ _ (and_from _ _ a (and_from _ _ b refl)) refl))
        (and_from _ _ (and_from _ _ refl (and_from _ _ (and_from _ _ (gives_kept g (given_type (Two operator) ty ∷ []) mask Bit m)
        (and_from _ _ here (and_from _ _ (gives_kept g (given_type (Two operator) ty ∷ []) left ty a) refl))) refl)) refl),
    subst (λ (x : Given). gives x (at + 1) ty ≡ true) (append_assoc g (given_type (Two operator) ty ∷ []) (Some ty ∷ []))
        (gives_end (g ++ given_type (Two operator) ty ∷ []) (at + 1) ty (omega (arith, same, length-append g (given_type (Two operator) ty ∷ [])))),
  )
    where
      here : gives (g ++ given_type (Two operator) ty ∷ []) at ty ≡ true
      here = ap (λ b. gives (g ++ Some (if b then Bit else ty) ∷ []) at ty) plain ∙ gives_end g at ty same

  -- the last of them gives a word; where there is none, that is what they would meet
  pub met_right : (words : List LaneWord) (at left : ℕ) (g : Given) → at ≡ length g → gives g left ty ≡ true → AreMet g ty words → (1 ≤ length words) ⊎ (suc left ≡ at)
      → (are_operations_right_after lanes inside g (met_ops counter operator ty at left words) ≡ true)
      × (gives (g ++ given_of (met_ops counter operator ty at left words)) (at + length (met_ops counter operator ty at left words) - 1) ty ≡ true)
  met_right [] at left g same l h (inl one) = absurd (omega arith)
  met_right [] at left g same l h (inr next) = (refl, ap (λ n. gives (g ++ []) n ty) {x = at + 0 - 1} {y = left} (omega (arith, next)) ∙ gives_kept g [] left ty l)
  met_right (w ∷ words) at left g same l h some =
      let mask : ℕ = elim w.mask as (λ _. ℕ) [ Some mask ↦ mask | None ↦ 0 ] in
      let ops : List PlainOp = join_ops counter operator ty at mask left w.place in
      let more : List PlainOp = met_ops counter operator ty (at + 2) (at + 1) words in
      let a = join_right at mask left w.place g same h.1 l h.0 in
      let r = met_right words (at + 2) (at + 1) (g ++ given_of ops) (omega (arith, same, length-append g (given_of ops), given_length ops)) a.1 (met_more g (given_of ops) ty words h.2) (inr (omega arith)) in (
        after_both lanes inside g ops more a.0 r.0,
        ap (λ n. gives (g ++ given_of (ops ++ more)) n ty) {x = at + length (ops ++ more) - 1} {y = at + 2 + length more - 1} (omega (arith, length-append ops more))
            ∙ subst (λ (x : Given). gives x (at + 2 + length more - 1) ty ≡ true) (whole g ops more) r.1,
      )

-- a list up to the last operation that takes a word, and from there on
take_past : (before : List PlainOp) (x : PlainOp) (after : List PlainOp) → take (suc (length before)) (before ++ x ∷ after) ≡ before ++ x ∷ []
take_past [] x after = refl
take_past (y ∷ before) x after = ap (λ l. y ∷ l) (take_past before x after)

pub take_front : (before rest : List PlainOp) → take (length before) (before ++ rest) ≡ before
take_front [] rest = refl
take_front (y ∷ before) rest = ap (λ l. y ∷ l) (take_front before rest)

drop_past : (before : List PlainOp) (x : PlainOp) (after : List PlainOp) → drop (suc (length before)) (before ++ x ∷ after) ≡ after
drop_past [] x after = refl
drop_past (y ∷ before) x after = drop_past before x after

pub drop_front : (before rest : List PlainOp) → drop (length before) (before ++ rest) ≡ rest
drop_front [] rest = refl
drop_front (y ∷ before) rest = drop_front before rest

last_is : (before : List PlainOp) (x : PlainOp) → last_op (before ++ x ∷ []) ≡ x
last_is before x =
    ap (λ n. elim (drop n (before ++ x ∷ [])) as (λ _. PlainOp) [ [] ↦ no_op | op ∷ rest ↦ op ]) {x = length (before ++ x ∷ []) - 1} {y = length before} (omega (arith, length-append before (x ∷ [])))
    ∙ ap (λ l. elim l as (λ _. PlainOp) [ [] ↦ no_op | op ∷ rest ↦ op ]) (drop_front before (x ∷ []))

module _ (word : ℕ) (last : PlainOp) (after : List PlainOp) (taken : takes word last ≡ true) (no_more : list_any (takes word) after ≡ false) where
  taken_in : (before : List PlainOp) → list_any (takes word) (before ++ last ∷ after) ≡ true
  taken_in [] = ap (λ b. b || list_any (takes word) after) taken
  taken_in (x ∷ before) = or_right (takes word x) (list_any (takes word) (before ++ last ∷ after)) (taken_in before)

  pub counted : (before : List PlainOp) → count_up_to word (before ++ last ∷ after) ≡ suc (length before)
  counted [] = ap (λ b. cond b (suc (count_up_to word after)) (cond (takes word last) 1 0)) no_more ∙ ap (λ b. cond b 1 0) taken
  counted (x ∷ before) = ap (λ b. cond b (suc (count_up_to word (before ++ last ∷ after))) (cond (takes word x) 1 0)) (taken_in before) ∙ ap suc (counted before)

-- a combination in order, by these parts
module _ (counter first : ℕ) (bodies : List Body) (at : ℕ) (m : Meeting) (words : List LaneWord) where
  abbrev pub here_at : ℕ → ℕ
  here_at = moved_place first at m.word (first_place words) (first_places bodies)

  abbrev pub by_parts : (count : ℕ) (last : PlainOp) (with without after : List PlainOp) → List PlainOp
  by_parts count last with without after =
      if is_choice last.kind
      then meeting_in_order counter first bodies at m here_at with (at + count - 1) (without_first words) (first + count - 1) after
      else meeting_in_order counter first bodies at m here_at without (here_at (slice_index last.args 0)) words (first + count - 1) after

  pub as_parts : (before : List PlainOp) (last : PlainOp) (after : List PlainOp) → takes m.word last ≡ true → list_any (takes m.word) after ≡ false
      → in_order counter first bodies at m words (before ++ last ∷ after) ≡ by_parts (suc (length before)) last (before ++ last ∷ []) before after
  as_parts before last after taken no_more =
      ap (λ n. by_parts n (last_op (take n (before ++ last ∷ after))) (take n (before ++ last ∷ after)) (take (n - 1) (before ++ last ∷ after)) (drop n (before ++ last ∷ after)))
      (counted m.word last after taken no_more before)
      ∙ ap (λ l. by_parts (suc (length before)) (last_op l) l (take (suc (length before) - 1) (before ++ last ∷ after)) (drop (suc (length before)) (before ++ last ∷ after))) (take_past before last after)
      ∙ ap (λ x. by_parts (suc (length before)) x (before ++ last ∷ []) (take (suc (length before) - 1) (before ++ last ∷ after)) (drop (suc (length before)) (before ++ last ∷ after))) (last_is before last)
      ∙ ap (λ n. by_parts (suc (length before)) last (before ++ last ∷ []) (take n (before ++ last ∷ after)) (drop (suc (length before)) (before ++ last ∷ after))) {x = suc (length before) - 1} {y = length before} (omega arith)
      ∙ ap (λ l. by_parts (suc (length before)) last (before ++ last ∷ []) l (drop (suc (length before)) (before ++ last ∷ after))) (take_front before (last ∷ after))
      ∙ ap (λ l. by_parts (suc (length before)) last (before ++ last ∷ []) before l) (drop_past before last after)
