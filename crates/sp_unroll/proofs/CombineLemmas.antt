-- Combinations: the last operation that takes a word; bodies without their operations.
use Rattle.std.proofs.Common.{◌≡◌, ◌||◌, ◌+◌, ◌-◌, ◌≤◌, min, ℕ, zero, suc, Bool, true, false, List, [], ◌∷◌, ◌++◌, map, take, drop, length, length-append, length-drop, append_assoc, arith, refl, sym, ap, ◌∙◌}
use Rattle.std.specs.Prelude.{if◌then◌else◌, slice_index, nat_le, Some}
use Rattle.std.specs.List.{list_any}
use Rattle.sp_core.specs.declared.operation.Op.{Op}
use Rattle.sp_core.specs.Plain.{plain_op, plain_ops}
use Rattle.sp_core.specs.PlainCore.{PlainOp}
use Rattle.sp_lanes.specs.Bodies.{Body, lane_bodies, all_ops}
use Rattle.sp_lanes.specs.Combined.{Meeting, meeting, takes, count_up_to, is_choice, without_first, last_op, first_place, first_places, moved, moved_place, met_ops, after_joined, meeting_in_order, in_order, combined, laned_ops}
use Rattle.sp_lanes.specs.Joined.{LaneWord, Round, is_balanced, lane_words, rounds}
use Rattle.sp_lanes.specs.Within.{Within, ops_in}
use Rattle.sp_unroll.specs.Bodies.{bare}
use Rattle.sp_unroll.specs.Words.{last_after, combined_at}

either : (t any : Bool) (was at n : ℕ) → (if any then suc at + n else (if t then suc at else was)) ≡ (if t || any then at + (if any then suc n else if t then 1 else 0) else was)
either true true was at n = omega arith
either true false was at n = omega arith
either false true was at n = omega arith
either false false was at n = refl

last_is : (word was at : ℕ) (ops : List PlainOp) → last_after word was at ops ≡ (if list_any (takes word) ops then at + count_up_to word ops else was)
last_is word was at [] = refl
last_is word was at (op ∷ ops) =
    last_is word (if takes word op then suc at else was) (suc at) ops ∙ either (takes word op) (list_any (takes word) ops) was at (count_up_to word ops)

none : (t any : Bool) (n : ℕ) → (t || any) ≡ false → (if any then suc n else if t then 1 else 0) ≡ 0
none true any n e = absurd (cc)
none false true n e = absurd (cc)
none false false n e = refl

none_taken : (word : ℕ) (ops : List PlainOp) → list_any (takes word) ops ≡ false → count_up_to word ops ≡ 0
none_taken word [] e = refl
none_taken word (op ∷ ops) e = none (takes word op) (list_any (takes word) ops) (count_up_to word ops) e

if_any : (b : Bool) (n : ℕ) → (b ≡ false → n ≡ 0) → (if b then 0 + n else 0) ≡ n
if_any true n f = omega arith
if_any false n f = sym (f refl)

pub counted : (word : ℕ) (ops : List PlainOp) → last_after word 0 0 ops ≡ count_up_to word ops
counted word ops = last_is word 0 0 ops ∙ if_any (list_any (takes word) ops) (count_up_to word ops) (none_taken word ops)

-- one more operation
pub count_more : (word was now at : ℕ) (op : PlainOp) (ops all : List PlainOp) → all ≡ op ∷ ops → now ≡ (if takes word op then at + 1 else was)
    → last_after word now (at + 1) ops ≡ last_after word was at all
count_more word was now at op ops all e h =
    let k : at + 1 ≡ suc at = omega arith in
    ap (λ n. last_after word n (at + 1) ops) h ∙ ap (λ j. last_after word (if takes word op then j else was) j ops) k ∙ sym (ap (last_after word was at) e)

pick_most : (b : Bool) (was now at : ℕ) → was ≤ at → now ≡ (if b then at + 1 else was) → now ≤ at + 1
pick_most true was now at h e = omega (arith, e)
pick_most false was now at h e = omega (arith, h, e)

pub at_most : (word : ℕ) (op : PlainOp) (was now at : ℕ) → was ≤ at → now ≡ (if takes word op then at + 1 else was) → now ≤ at + 1
at_most word op was now at h e = pick_most (takes word op) was now at h e

-- bodies without their operations have the same words and places
words_bare : (l word : ℕ) (bodies : List Body) → lane_words l word (map bare bodies) ≡ lane_words l word bodies
words_bare l word [] = refl
words_bare l word (b ∷ bodies) = ap (λ ws. record { place = slice_index b.places word; first = l; last = l; mask = Some b.mask } ∷ ws) (words_bare (suc l) word bodies)

joined_bare : (counter first : ℕ) (bodies : List Body) (at : ℕ) (m : Meeting) (words : List LaneWord) (ops : List PlainOp) → after_joined counter first (map bare bodies) at m words ops ≡ after_joined counter first bodies at m words ops
joined_bare counter first [] at m words ops = refl
joined_bare counter first (b ∷ bodies) at m words ops = refl

order_bare : (counter first : ℕ) (bodies : List Body) (at : ℕ) (m : Meeting) (words : List LaneWord) (ops : List PlainOp) → in_order counter first (map bare bodies) at m words ops ≡ in_order counter first bodies at m words ops
order_bare counter first [] at m words ops = refl
order_bare counter first (b ∷ bodies) at m words ops = refl

pub combined_bare : (counter first : ℕ) (bodies : List Body) (ops : List PlainOp) → combined_at counter first (map bare bodies) (length (all_ops bodies)) ops ≡ combined counter first bodies ops
combined_bare counter first bodies ops =
    let m : Meeting = meeting ops in
    let at : ℕ = length (all_ops bodies) in
    ap (λ (words : List LaneWord). if is_balanced m.operator m.ty then after_joined counter first (map bare bodies) at m words ops else in_order counter first (map bare bodies) at m words ops) (words_bare 0 m.word bodies)
    ∙ ap (λ (x : List PlainOp). if is_balanced m.operator m.ty then x else in_order counter first (map bare bodies) at m (lane_words 0 m.word bodies) ops) (joined_bare counter first bodies at m (lane_words 0 m.word bodies) ops)
    ∙ ap (λ (x : List PlainOp). if is_balanced m.operator m.ty then after_joined counter first bodies at m (lane_words 0 m.word bodies) ops else x) (order_bare counter first bodies at m (lane_words 0 m.word bodies) ops)

none_before : (k : ℕ) → plain_ops (take k []) ≡ []
none_before zero = refl
none_before (suc k) = refl

none_from : (k : ℕ) → plain_ops (drop k []) ≡ []
none_from zero = refl
none_from (suc k) = refl

no_front : (k : ℕ) → take k (plain_ops []) ≡ []
no_front zero = refl
no_front (suc k) = refl

no_rest : (k : ℕ) → drop k (plain_ops []) ≡ []
no_rest zero = refl
no_rest (suc k) = refl

-- the part of a list before a place, and that from it on
before_cut : (ops : List Op) (first cut : ℕ) → cut ≡ min (length ops) first → plain_ops (take cut ops) ≡ take first (plain_ops ops)
before_cut [] first cut e = none_before cut ∙ sym (no_front first)
before_cut (x ∷ ops) zero cut e = let z : cut ≡ zero = omega (arith, e) in ap (λ k. plain_ops (take k (x ∷ ops))) z
before_cut (x ∷ ops) (suc n) zero e = absurd (omega (arith, e))
before_cut (x ∷ ops) (suc n) (suc k) e = ap (λ l. plain_op x ∷ l) (before_cut ops n k (omega (arith, e)))

from_cut : (ops : List Op) (first cut : ℕ) → cut ≡ min (length ops) first → plain_ops (drop cut ops) ≡ drop first (plain_ops ops)
from_cut [] first cut e = none_from cut ∙ sym (no_rest first)
from_cut (x ∷ ops) zero cut e = let z : cut ≡ zero = omega (arith, e) in ap (λ k. plain_ops (drop k (x ∷ ops))) z
from_cut (x ∷ ops) (suc n) zero e = absurd (omega (arith, e))
from_cut (x ∷ ops) (suc n) (suc k) e = from_cut ops n k (omega (arith, e))

-- the bodies of all lanes, and a combination that begins at a place
pub with_made : (counter first : ℕ) (inside : ℕ → Within) (own : List ℕ) (lanes : ℕ) (ops : List Op) (cut k : ℕ) (all end comb : List PlainOp) (made : List Body)
    → cut ≡ min (length ops) first → k ≡ counter → all ≡ all_ops (lane_bodies counter inside (plain_ops (take cut ops)) own lanes)
    → made ≡ map bare (lane_bodies counter inside (plain_ops (take cut ops)) own lanes) → comb ≡ ops_in (inside 0) (plain_ops (drop cut ops))
    → end ≡ all ++ combined_at k first made (length all) comb → end ≡ laned_ops counter inside own lanes (plain_ops ops) (Some first)
with_made counter first inside own lanes ops cut k all end comb made m e a b d h =
    let body : List PlainOp = take first (plain_ops ops) in
    let pb : plain_ops (take cut ops) ≡ body = before_cut ops first cut m in
    let bodies : List Body = lane_bodies counter inside body own lanes in
    let combination : List PlainOp = ops_in (inside 0) (drop first (plain_ops ops)) in
    let pa : all ≡ all_ops bodies = a ∙ ap (λ (x : List PlainOp). all_ops (lane_bodies counter inside x own lanes)) pb in
    let pm : made ≡ map bare bodies = b ∙ ap (λ (x : List PlainOp). map bare (lane_bodies counter inside x own lanes)) pb in
    let pc : comb ≡ combination = d ∙ ap (λ (x : List PlainOp). ops_in (inside 0) x) (from_cut ops first cut m) in
    h ∙ (λ i. pa i ++ combined_at (e i) first (pm i) (length (pa i)) (pc i)) ∙ ap (λ x. all_ops bodies ++ x) (combined_bare counter first bodies combination)

whole : (ops : List Op) → take (length ops) ops ≡ ops
whole [] = refl
whole (x ∷ ops) = ap (λ l. x ∷ l) (whole ops)

-- all of what is left from a place on
pub all_from : (n : ℕ) (ops : List Op) → take (length ops - n) (drop n ops) ≡ drop n ops
all_from n ops = let k : length ops - n ≡ length (drop n ops) = omega (arith, length-drop n ops) in ap (λ m. take m (drop n ops)) k ∙ whole (drop n ops)

taken : (n : ℕ) (ops : List Op) → plain_ops (take n ops) ≡ take n (plain_ops ops)
taken zero [] = refl
taken zero (x ∷ ops) = refl
taken (suc n) [] = refl
taken (suc n) (x ∷ ops) = ap (λ l. plain_op x ∷ l) (taken n ops)

dropped : (n : ℕ) (ops : List Op) → plain_ops (drop n ops) ≡ drop n (plain_ops ops)
dropped zero [] = refl
dropped zero (x ∷ ops) = refl
dropped (suc n) [] = refl
dropped (suc n) (x ∷ ops) = dropped n ops

length_moved : (place : ℕ → ℕ) (ops : List PlainOp) → length (moved place ops) ≡ length ops
length_moved place [] = refl
length_moved place (op ∷ ops) = ap suc (length_moved place ops)

module _ (counter first : ℕ) (m : Meeting) (out : List PlainOp) where
  -- joined words, and then the combination
  pub after_made : (bodies : List Body) (words left : List LaneWord) (all end combination : List PlainOp) (count at to : ℕ) (places : List ℕ) → count ≡ length words
      → all ≡ out ++ (rounds counter m.operator m.ty count (length out) words).ops → left ≡ (rounds counter m.operator m.ty count (length out) words).words
      → at ≡ length all → to ≡ first_place left → places ≡ first_places bodies → end ≡ all ++ moved (moved_place first at m.word to places) combination
      → end ≡ out ++ after_joined counter first bodies (length out) m words combination
  after_made bodies words left all end combination count at to places n e f h g p x =
      let r : Round = rounds counter m.operator m.ty count (length out) words in
      let k : at ≡ length out + length r.ops = h ∙ ap length e ∙ length-append out r.ops in
      x
      ∙ ap (λ y. all ++ moved (moved_place first y m.word to places) combination) k
      ∙ ap (λ y. all ++ moved (moved_place first (length out + length r.ops) m.word y places) combination) (g ∙ ap first_place f)
      ∙ ap (λ y. all ++ moved (moved_place first (length out + length r.ops) m.word (first_place r.words) y) combination) p
      ∙ ap (λ y. y ++ moved (moved_place first (length out + length r.ops) m.word (first_place r.words) (first_places bodies)) combination) e
      ∙ append_assoc out r.ops (moved (moved_place first (length out + length r.ops) m.word (first_place r.words) (first_places bodies)) combination)
      ∙ ap (λ c. out ++ ((rounds counter m.operator m.ty c (length out) words).ops ++ moved (moved_place first (length out + length (rounds counter m.operator m.ty c (length out) words).ops) m.word (first_place (rounds counter m.operator m.ty c (length out) words).words) (first_places bodies)) combination)) n

  -- operations, meetings, and what comes after
  pub turn_made : (here : ℕ → ℕ) (words : List LaneWord) (before one two end after : List PlainOp) (left ended stands : ℕ)
      → one ≡ out ++ moved here before → two ≡ one ++ met_ops counter m.operator m.ty (length one) left words → stands ≡ length two - 1
      → end ≡ two ++ moved (λ k. if nat_le ended k then stands + (k - ended) else here k) after
      → end ≡ out ++ meeting_in_order counter first [] (length out) m here before left words ended after
  turn_made here words before one two end after left ended stands e f s h =
      let front = moved here before in
      let n : length one ≡ length out + length before = ap length e ∙ length-append out front ∙ ap (λ k. length out + k) (length_moved here before) in
      let met = met_ops counter m.operator m.ty (length out + length before) left words in
      let g : two ≡ one ++ met = f ∙ ap (λ k. one ++ met_ops counter m.operator m.ty k left words) n in
      let k : stands ≡ length out + length before + length met - 1 = s ∙ ap (λ x. length x - 1) g ∙ ap (λ x. x - 1) (length-append one met) ∙ ap (λ x. x + length met - 1) n in
      let back = λ (st : ℕ). moved (λ k. if nat_le ended k then st + (k - ended) else here k) after in
      h ∙ ap (λ st. two ++ back st) k
      ∙ ap (λ x. x ++ back (length out + length before + length met - 1)) (g ∙ ap (λ x. x ++ met) e ∙ append_assoc out front met)
      ∙ append_assoc out (front ++ met) (back (length out + length before + length met - 1))

module _ (counter first : ℕ) (bodies : List Body) (m : Meeting) (out : List PlainOp) (words : List LaneWord) (ops : List Op) where
  -- a combination that chooses, by its parts
  pub choice_made : (others : List LaneWord) (part rest : List Op) (end : List PlainOp) (count at to left ended : ℕ) (places : List ℕ)
      → count ≡ count_up_to m.word (plain_ops ops) → at ≡ length out → to ≡ first_place words → left ≡ at + count - 1 → ended ≡ first + count - 1 → places ≡ first_places bodies
      → others ≡ without_first words → part ≡ take count ops → rest ≡ drop count ops → is_choice (last_op (plain_ops part)).kind ≡ true
      → end ≡ out ++ meeting_in_order counter first [] (length out) m (moved_place first at m.word to places) (plain_ops part) left others ended (plain_ops rest)
      → end ≡ out ++ in_order counter first bodies (length out) m words (plain_ops ops)
  choice_made others part rest end count at to left ended places c a t l e p o f g b h =
      let n : ℕ = count_up_to m.word (plain_ops ops) in
      let here : ℕ → ℕ = moved_place first (length out) m.word (first_place words) (first_places bodies) in
      let last : PlainOp = last_op (take n (plain_ops ops)) in
      let yes : List PlainOp = meeting_in_order counter first bodies (length out) m here (take n (plain_ops ops)) (length out + n - 1) (without_first words) (first + n - 1) (drop n (plain_ops ops)) in
      let no : List PlainOp = meeting_in_order counter first bodies (length out) m here (take (n - 1) (plain_ops ops)) (here (slice_index last.args 0)) words (first + n - 1) (drop n (plain_ops ops)) in
      let pf : plain_ops part ≡ take n (plain_ops ops) = ap plain_ops f ∙ taken count ops ∙ ap (λ k. take k (plain_ops ops)) c in
      let pg : plain_ops rest ≡ drop n (plain_ops ops) = ap plain_ops g ∙ dropped count ops ∙ ap (λ k. drop k (plain_ops ops)) c in
      let pl : left ≡ length out + n - 1 = l ∙ (λ i. a i + c i - 1) in
      let pe : ended ≡ first + n - 1 = e ∙ ap (λ k. first + k - 1) c in
      let pb : is_choice last.kind ≡ true = sym (ap (λ x. is_choice (last_op x).kind) pf) ∙ b in
      h
      ∙ (λ i. out ++ meeting_in_order counter first [] (length out) m (moved_place first (a i) m.word (t i) (p i)) (pf i) (pl i) (o i) (pe i) (pg i))
      ∙ sym (ap (λ x. out ++ (if x then yes else no)) pb)

  -- one that doesn't
  pub fold_made : (part before rest : List Op) (end : List PlainOp) (count at to first_left left ended : ℕ) (places : List ℕ)
      → count ≡ count_up_to m.word (plain_ops ops) → at ≡ length out → to ≡ first_place words → first_left ≡ slice_index (last_op (plain_ops part)).args 0
      → left ≡ moved_place first at m.word to places first_left → ended ≡ first + count - 1 → places ≡ first_places bodies
      → part ≡ take count ops → before ≡ take (count - 1) ops → rest ≡ drop count ops → is_choice (last_op (plain_ops part)).kind ≡ false
      → end ≡ out ++ meeting_in_order counter first [] (length out) m (moved_place first at m.word to places) (plain_ops before) left words ended (plain_ops rest)
      → end ≡ out ++ in_order counter first bodies (length out) m words (plain_ops ops)
  fold_made part before rest end count at to first_left left ended places c a t q l e p f d g b h =
      let n : ℕ = count_up_to m.word (plain_ops ops) in
      let here : ℕ → ℕ = moved_place first (length out) m.word (first_place words) (first_places bodies) in
      let last : PlainOp = last_op (take n (plain_ops ops)) in
      let yes : List PlainOp = meeting_in_order counter first bodies (length out) m here (take n (plain_ops ops)) (length out + n - 1) (without_first words) (first + n - 1) (drop n (plain_ops ops)) in
      let no : List PlainOp = meeting_in_order counter first bodies (length out) m here (take (n - 1) (plain_ops ops)) (here (slice_index last.args 0)) words (first + n - 1) (drop n (plain_ops ops)) in
      let pf : plain_ops part ≡ take n (plain_ops ops) = ap plain_ops f ∙ taken count ops ∙ ap (λ k. take k (plain_ops ops)) c in
      let pd : plain_ops before ≡ take (n - 1) (plain_ops ops) = ap plain_ops d ∙ taken (count - 1) ops ∙ ap (λ k. take (k - 1) (plain_ops ops)) c in
      let pg : plain_ops rest ≡ drop n (plain_ops ops) = ap plain_ops g ∙ dropped count ops ∙ ap (λ k. drop k (plain_ops ops)) c in
      let pq : first_left ≡ slice_index last.args 0 = q ∙ ap (λ x. slice_index (last_op x).args 0) pf in
      let pl : left ≡ here (slice_index last.args 0) = l ∙ (λ i. moved_place first (a i) m.word (t i) (p i) (pq i)) in
      let pe : ended ≡ first + n - 1 = e ∙ ap (λ k. first + k - 1) c in
      let pb : is_choice last.kind ≡ false = sym (ap (λ x. is_choice (last_op x).kind) pf) ∙ b in
      h
      ∙ (λ i. out ++ meeting_in_order counter first [] (length out) m (moved_place first (a i) m.word (t i) (p i)) (pd i) (pl i) words (pe i) (pg i))
      ∙ sym (ap (λ x. out ++ (if x then yes else no)) pb)
