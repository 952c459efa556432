-- Words of lanes that are joined in pairs, round by round.
use Rattle.std.proofs.Common.{◌≡◌, ℕ, zero, suc, ◌+◌, ◌-◌, ◌<◌, ◌≤◌, Bool, true, false, cond, List, [], ◌∷◌, ◌++◌, length, Option, Some, None, refl, sym, ◌∙◌, ap, subst, arith}
use Rattle.std.proofs.lemmas.List.{length-append, append_assoc}
use Rattle.sp_words.specs.declared.kind.BinOp.{BinOp}
use Rattle.sp_words.specs.declared.types.Ty.{Ty}
use Rattle.sp_words.specs.Words.{IsWord}
use Rattle.sp_core.specs.declared.operation.OpKind.TheVariants.{Two, Mux}
use Rattle.sp_core.specs.History.{Entry, gave, word_at}
use Rattle.sp_core.specs.Operations.{operation, operations_after}
use Rattle.sp_core.specs.Operators.{bit, two_word, chosen}
use Rattle.sp_core.specs.PlainCore.{PlainOp, PlainCore}
use Rattle.sp_core.specs.Scope.{Scope, is_some_live}
use Rattle.sp_core.specs.Step.{Went, went, stopped, more, pure, ◌>>=◌}
use Rattle.sp_core.specs.Store.{Store}
use Rattle.sp_lanes.specs.Bodies.{Body, computes, live_op}
use Rattle.sp_lanes.specs.Combined.{first_place}
use Rattle.sp_lanes.specs.Joined.{LaneWord, Round, lane_words, join_ops, joined_by, joined_word, one_round, rounds}
use Rattle.sp_lane_groups.proofs.LiveLane.{word_kept, word_end}
use Rattle.sp_lane_groups.proofs.RunsWhole.{nothing_on, runs_append}
use Rattle.sp_lane_rules.proofs.UnrolledGivens.{append_none}
use Rattle.sp_lane_groups.specs.WordsStanding.{LanesStand}
use Rattle.sp_lane_groups.specs.JoinedWords.{in_turn, words_of, EachHasWord}
use Rattle.sp_lane_groups.proofs.JoinedLive.{FirstLive, some_is_first}
use Rattle.sp_lane_groups.proofs.JoinedTurns.{AllAre, are_front, are_back, halves}

module _ (core : PlainCore) (scope : Scope) (counter : ℕ) (op : BinOp) (ty : Ty) (n : ℕ) (firsts : FirstLive (scope counter).live n)
    (closed : (a b : ℕ) → IsWord ty a → IsWord ty b → IsWord ty (two_word op ty a b)) (grouped : (a b c : ℕ) → IsWord ty a → IsWord ty b → IsWord ty c → two_word op ty (two_word op ty a b) c ≡ two_word op ty a (two_word op ty b c)) where
  abbrev live : ℕ → Bool
  live = (scope counter).live

  abbrev joint : ℕ → ℕ → ℕ
  joint = two_word op ty

  -- a mask that stands already has this word
  abbrev MaskHas : List Entry → Option ℕ → ℕ → Type 0
  MaskHas es None b = Unit {0}
  MaskHas es (Some m) b = (m < length es) × (word_at es m ≡ b)

  -- the word of some lanes stands for the words of those that have an iteration
  abbrev OneStands : List Entry → LaneWord → List ℕ → Type 0
  OneStands es x [] = (live x.first ≡ false) × MaskHas es x.mask 0
  OneStands es x (v ∷ vs) = (live x.first ≡ true) × MaskHas es x.mask 1 × (x.place < length es) × (word_at es x.place ≡ in_turn joint v vs)

  -- words of lanes, from a lane on, stand for words in order
  abbrev pub StandFor : List Entry → (l : ℕ) → List LaneWord → List ℕ → Type 0
  StandFor es l [] vs = vs ≡ []
  StandFor es l (x ∷ words) vs =
      (x.first ≡ l) × (l ≤ x.last) × (x.last < n) × ((mine : List ℕ) × (rest : List ℕ) × (vs ≡ mine ++ rest) × OneStands es x mine × (mine ≡ [] → rest ≡ []) × StandFor es (suc x.last) words rest)

  mask_more : (es new : List Entry) (m : Option ℕ) (b : ℕ) → MaskHas es m b → MaskHas (es ++ new) m b
  mask_more es new None b h = tt
  mask_more es new (Some m) b h = ((let lt = h.0 in omega (arith, lt, length-append es new)), word_kept es new m h.0 ∙ h.1)

  one_more : (es new : List Entry) (x : LaneWord) (mine : List ℕ) → OneStands es x mine → OneStands (es ++ new) x mine
  one_more es new x [] h = (h.0, mask_more es new x.mask 0 h.1)
  one_more es new x (v ∷ vs) h = (h.0, mask_more es new x.mask 1 h.1, (let lt = h.2 in omega (arith, lt, length-append es new)), word_kept es new x.place h.2 ∙ h.3)

  pub stand_more : (es new : List Entry) (l : ℕ) (words : List LaneWord) (vs : List ℕ) → StandFor es l words vs → StandFor (es ++ new) l words vs
  stand_more es new l [] vs h = h
  stand_more es new l (x ∷ words) vs h = (h.0, h.1, h.2, (h.3.0, h.3.1, h.3.2, one_more es new x h.3.0 h.3.3, h.3.4, stand_more es new (suc x.last) words h.3.1 h.3.5))

  step_on : (x : PlainOp) (ops : List PlainOp) (done : List Entry) (t : Store) (e : Entry) → operation core scope x done t ≡ went e t → operations_after core scope done (x ∷ ops) t ≡ operations_after core scope (done ++ e ∷ []) ops t
  unfolding operations_after ◌>>=◌
  step_on x ops done t e i = ap (λ (r : Went Entry). elim r as (λ _. Went (List Entry)) [ went a v ↦ operations_after core scope (done ++ a ∷ []) ops v | stopped ↦ stopped | more ↦ more ]) i

  -- the operator, and the choice
  abbrev joint_entry : List Entry → (left right : ℕ) → Entry
  joint_entry es left right = gave (joint (word_at es left) (word_at es right))

  abbrev choice_entry : List Entry → (mask at left : ℕ) → Entry
  choice_entry es mask at left = gave (chosen (word_at es mask) (word_at es at) (word_at es left))

  abbrev both_entries : List Entry → (at mask left right : ℕ) → List Entry
  both_entries es at mask left right = joint_entry es left right ∷ choice_entry (es ++ joint_entry es left right ∷ []) mask at left ∷ []

  joins : (es : List Entry) (at mask left right : ℕ) (t : Store) → operations_after core scope es (join_ops counter op ty at mask left right) t ≡ went (es ++ both_entries es at mask left right) t
  unfolding pure
  joins es at mask left right t =
      let a : Entry = joint_entry es left right in
      let b : Entry = choice_entry (es ++ a ∷ []) mask at left in
      step_on (computes (Two op) ty (left ∷ right ∷ [])) (computes Mux ty (mask ∷ at ∷ left ∷ []) ∷ []) es t a refl
      ∙ step_on (computes Mux ty (mask ∷ at ∷ left ∷ [])) [] (es ++ a ∷ []) t b refl
      ∙ nothing_on core scope ((es ++ a ∷ []) ++ b ∷ []) t ∙ ap (λ d. went d t) (append_assoc es (a ∷ []) (b ∷ []))

  -- the word of the choice
  choice_word : (es : List Entry) (at mask left right : ℕ) (b : Bool) → at ≡ length es → mask < length es → word_at es mask ≡ bit b → left < length es
      → word_at (es ++ both_entries es at mask left right) (suc at) ≡ cond b (joint (word_at es left) (word_at es right)) (word_at es left)
  choice_word es at mask left right b same lt is there =
      let a : Entry = joint_entry es left right in
      let e : Entry = choice_entry (es ++ a ∷ []) mask at left in
      ap (λ d. word_at d (suc at)) (sym (append_assoc es (a ∷ []) (e ∷ [])))
      ∙ word_end (es ++ a ∷ []) e (suc at) (omega (arith, same, length-append es (a ∷ [])))
      ∙ ap (λ m. chosen m (word_at (es ++ a ∷ []) at) (word_at (es ++ a ∷ []) left)) (word_kept es (a ∷ []) mask lt ∙ is)
      ∙ ap (λ x. chosen (bit b) x (word_at (es ++ a ∷ []) left)) (word_end es a at same)
      ∙ ap (λ y. chosen (bit b) (joint (word_at es left) (word_at es right)) y) (word_kept es (a ∷ []) left there)
      ∙ by b
    where
      by : (b : Bool) → chosen (bit b) (joint (word_at es left) (word_at es right)) (word_at es left) ≡ cond b (joint (word_at es left) (word_at es right)) (word_at es left)
      by true = refl
      by false = refl

  -- two neighbours, by the word of the right one's mask
  joined_stands : (es : List Entry) (at mask : ℕ) (left right x : LaneWord) (mine theirs : List ℕ) → at ≡ length es → mask < length es → word_at es mask ≡ bit (live right.first) → OneStands es left mine → OneStands es right theirs → (mine ≡ [] → theirs ≡ [])
      → AllAre (IsWord ty) mine → AllAre (IsWord ty) theirs → x.first ≡ left.first → x.mask ≡ None → x.place ≡ suc at → OneStands (es ++ both_entries es at mask left.place right.place) x (mine ++ theirs)
  joined_stands es at mask left right x [] [] same lt is h k none a b first free place = (ap live first ∙ h.0, subst (λ m. MaskHas (es ++ both_entries es at mask left.place right.place) m 0) (sym free) tt)
  joined_stands es at mask left right x [] (u ∷ us) same lt is h k none a b first free place = absurd (empty (none refl))
    where
      empty : (u ∷ us) ≡ [] → ⊥
      empty e = cc
  joined_stands es at mask left right x (v ∷ vs) [] same lt is h k none a b first free place = (
    ap live first ∙ h.0,
    subst (λ m. MaskHas (es ++ both_entries es at mask left.place right.place) m 1) (sym free) tt,
    (let long = length-append es (both_entries es at mask left.place right.place) in omega (arith, place, same, long)),
    ap (word_at (es ++ both_entries es at mask left.place right.place)) place
        ∙ choice_word es at mask left.place right.place false same lt (is ∙ ap bit k.0) h.2 ∙ h.3 ∙ ap (in_turn joint v) (sym (append_none vs)),
  )
  joined_stands es at mask left right x (v ∷ vs) (u ∷ us) same lt is h k none a b first free place = (
    ap live first ∙ h.0,
    subst (λ m. MaskHas (es ++ both_entries es at mask left.place right.place) m 1) (sym free) tt,
    (let long = length-append es (both_entries es at mask left.place right.place) in omega (arith, place, same, long)),
    ap (word_at (es ++ both_entries es at mask left.place right.place)) place
        ∙ choice_word es at mask left.place right.place true same lt (is ∙ ap bit k.0) h.2
        ∙ ap (λ y. joint y (word_at es right.place)) h.3 ∙ ap (joint (in_turn joint v vs)) k.3
        ∙ halves (IsWord ty) joint closed grouped v vs u us a.0 a.1 b.0 b.1,
  )

  live_step : (es : List Entry) (first last : ℕ) (ops : List PlainOp) (t : Store) → operations_after core scope es (live_op counter first last ∷ ops) t ≡ operations_after core scope (es ++ gave (bit (is_some_live live first last)) ∷ []) ops t
  unfolding pure
  live_step es first last ops t = step_on (live_op counter first last) ops es t (gave (bit (is_some_live live first last))) refl

  -- what is done for two neighbours, and that their word stands
  pub record Joined (es : List Entry) (ops : List PlainOp) (t : Store) (x : LaneWord) (vs : List ℕ) : Type 0 where
    pub new : List Entry
    pub ran : operations_after core scope es ops t ≡ went (es ++ new) t
    pub long : length new ≡ length ops
    pub stands : OneStands (es ++ new) x vs

  mask_bit : (es : List Entry) (x : LaneWord) (m : ℕ) (vs : List ℕ) → x.mask ≡ Some m → OneStands es x vs → (m < length es) × (word_at es m ≡ bit (live x.first))
  mask_bit es x m [] is h = let k : MaskHas es (Some m) 0 = subst (λ o. MaskHas es o 0) is h.1 in (k.0, k.1 ∙ sym (ap bit h.0))
  mask_bit es x m (v ∷ vs) is h = let k : MaskHas es (Some m) 1 = subst (λ o. MaskHas es o 1) is h.1 in (k.0, k.1 ∙ sym (ap bit h.0))

  -- their word, by the right one's mask
  abbrev word_by : (at : ℕ) → (left right : LaneWord) → Option ℕ → LaneWord
  word_by at left right m = record { place = at + length (joined_by counter op ty m at left right) - 1; first = left.first; last = right.last; mask = None }

  join : (t : Store) (es : List Entry) (at : ℕ) (left right : LaneWord) (mine theirs : List ℕ) → at ≡ length es → OneStands es left mine → OneStands es right theirs → (mine ≡ [] → theirs ≡ []) → right.first ≤ right.last → right.last < n
      → AllAre (IsWord ty) mine → AllAre (IsWord ty) theirs → Joined es (joined_by counter op ty right.mask at left right) t (joined_word counter op ty at left right) (mine ++ theirs)
  join t es at left right mine theirs same h k none le lt a b = by right.mask refl
    where
      by : (m : Option ℕ) → right.mask ≡ m → Joined es (joined_by counter op ty m at left right) t (word_by at left right m) (mine ++ theirs)
      by (Some m) is =
          let mask = mask_bit es right m theirs is k in
          record {
            new = both_entries es at m left.place right.place;
            ran = joins es at m left.place right.place t;
            long = refl;
            stands = joined_stands es at m left right (word_by at left right (Some m)) mine theirs same mask.0 mask.1 h k none a b refl refl (omega arith);
          }
      by None is =
          let e : Entry = gave (bit (is_some_live live right.first right.last)) in
          let longer : suc at ≡ length (es ++ e ∷ []) = omega (arith, same, length-append es (e ∷ [])) in
          let mask : word_at (es ++ e ∷ []) at ≡ bit (live right.first) = word_end es e at same ∙ ap bit (some_is_first live n right.first right.last firsts le lt) in
          let new : List Entry = both_entries (es ++ e ∷ []) (suc at) at left.place right.place in
          record {
            new = e ∷ new;
            ran = live_step es right.first right.last (join_ops counter op ty (suc at) at left.place right.place) t ∙ joins (es ++ e ∷ []) (suc at) at left.place right.place t ∙ ap (λ d. went d t) (append_assoc es (e ∷ []) new);
            long = refl;
            stands = subst (λ d. OneStands d (word_by at left right None) (mine ++ theirs)) (append_assoc es (e ∷ []) new)
                (joined_stands (es ++ e ∷ []) (suc at) at left right (word_by at left right None) mine theirs longer (omega (arith, longer)) mask (one_more es (e ∷ []) left mine h) (one_more es (e ∷ []) right theirs k) none a b refl refl (omega arith));
          }

  all_both : (a b : ℕ) (x y : ℕ) → a ≡ x → b ≡ y → a + b ≡ x + y
  all_both a b x y e f = omega (arith, e, f)

  -- a round, and what its words stand for
  pub record Rounded (es : List Entry) (l : ℕ) (r : Round) (t : Store) (vs : List ℕ) : Type 0 where
    pub new : List Entry
    pub ran : operations_after core scope es r.ops t ≡ went (es ++ new) t
    pub long : length new ≡ length r.ops
    pub stands : StandFor (es ++ new) l r.words vs

  no_ops : (es : List Entry) (l : ℕ) (words : List LaneWord) (t : Store) (vs : List ℕ) → StandFor es l words vs → Rounded es l (record { ops = []; words = words }) t vs
  no_ops es l words t vs h = record {
    new = [];
    ran = nothing_on core scope es t ∙ ap (λ d. went d t) (sym (append_none es));
    long = refl;
    stands = subst (λ d. StandFor d l words vs) (sym (append_none es)) h;
  }

  none_both : (xs ys : List ℕ) → xs ++ ys ≡ [] → ys ≡ []
  none_both [] ys e = e
  none_both (x ∷ xs) ys e = cc

  -- after some operations others, with what their words stand for
  two_runs : (es a b : List Entry) (xs ys : List PlainOp) (t : Store) → operations_after core scope es xs t ≡ went (es ++ a) t → operations_after core scope (es ++ a) ys t ≡ went ((es ++ a) ++ b) t → operations_after core scope es (xs ++ ys) t ≡ went (es ++ (a ++ b)) t
  two_runs es a b xs ys t h k = runs_append core scope xs ys es (es ++ a) t t h ∙ k ∙ ap (λ d. went d t) (append_assoc es a b)

  round_stands : (words : List LaneWord) (es : List Entry) (at l : ℕ) (t : Store) (vs : List ℕ) → at ≡ length es → StandFor es l words vs → AllAre (IsWord ty) vs → Rounded es l (one_round counter op ty at words) t vs
  round_stands [] es at l t vs same h a = no_ops es l [] t vs h
  round_stands (x ∷ []) es at l t vs same h a = no_ops es l (x ∷ []) t vs h
  round_stands (left ∷ right ∷ words) es at l t vs same h a =
      let mine : List ℕ = h.3.0 in
      let after : List ℕ = h.3.1 in
      let theirs : List ℕ = h.3.5.3.0 in
      let rest : List ℕ = h.3.5.3.1 in
      let all : vs ≡ mine ++ (theirs ++ rest) = h.3.2 ∙ ap (λ xs. mine ++ xs) h.3.5.3.2 in
      let are : AllAre (IsWord ty) (mine ++ (theirs ++ rest)) = subst (AllAre (IsWord ty)) all a in
      let others : AllAre (IsWord ty) (theirs ++ rest) = are_back (IsWord ty) mine (theirs ++ rest) are in
      let none : mine ≡ [] → theirs ≡ [] = λ e. front_none theirs rest (sym h.3.5.3.2 ∙ h.3.4 e) in
      let first_last : right.first ≤ right.last = (let f = h.3.5.0 in let g = h.3.5.1 in omega (arith, f, g)) in
      let j : Joined es (joined_by counter op ty right.mask at left right) t (joined_word counter op ty at left right) (mine ++ theirs) =
      join t es at left right mine theirs same h.3.3 h.3.5.3.3 none first_last h.3.5.2 (are_front (IsWord ty) mine (theirs ++ rest) are) (are_front (IsWord ty) theirs rest others) in
      let next : ℕ = at + length (joined_by counter op ty right.mask at left right) in
      let r : Rounded (es ++ j.new) (suc right.last) (one_round counter op ty next words) t rest =
      round_stands words (es ++ j.new) next (suc right.last) t rest (omega (arith, same, length-append es j.new, j.long)) (stand_more es j.new (suc right.last) words rest h.3.5.3.5) (are_back (IsWord ty) theirs rest others) in
      record {
        new = j.new ++ r.new;
        ran = two_runs es j.new r.new (joined_by counter op ty right.mask at left right) (one_round counter op ty next words).ops t j.ran r.ran;
        long = length-append j.new r.new ∙ all_both (length j.new) (length r.new) (length (joined_by counter op ty right.mask at left right)) (length (one_round counter op ty next words).ops) j.long r.long
            ∙ sym (length-append (joined_by counter op ty right.mask at left right) (one_round counter op ty next words).ops);
        stands = subst (λ d. StandFor d l (joined_word counter op ty at left right ∷ (one_round counter op ty next words).words) vs) (append_assoc es j.new r.new) (
          h.0,
          (let f = h.3.5.0 in let g = h.3.5.1 in let k = h.1 in omega (arith, f, g, k)),
          h.3.5.2,
          (mine ++ theirs, rest, all ∙ sym (append_assoc mine theirs rest), one_more (es ++ j.new) r.new (joined_word counter op ty at left right) (mine ++ theirs) j.stands, (λ e. h.3.5.3.4 (none_both mine theirs e)), r.stands),
        );
      }
    where
      front_none : (xs ys : List ℕ) → xs ++ ys ≡ [] → xs ≡ []
      front_none [] ys e = refl
      front_none (x ∷ xs) ys e = cc

  rounds_stand : (count : ℕ) (words : List LaneWord) (es : List Entry) (at l : ℕ) (t : Store) (vs : List ℕ) → at ≡ length es → StandFor es l words vs → AllAre (IsWord ty) vs → Rounded es l (rounds counter op ty count at words) t vs
  rounds_stand zero words es at l t vs same h a = no_ops es l words t vs h
  rounds_stand (suc count) words es at l t vs same h a =
      let r : Round = one_round counter op ty at words in
      let x : Rounded es l r t vs = round_stands words es at l t vs same h a in
      let next : ℕ = at + length r.ops in
      let y : Rounded (es ++ x.new) l (rounds counter op ty count next r.words) t vs = rounds_stand count r.words (es ++ x.new) next l t vs (omega (arith, same, length-append es x.new, x.long)) x.stands a in
      record {
        new = x.new ++ y.new;
        ran = two_runs es x.new y.new r.ops (rounds counter op ty count next r.words).ops t x.ran y.ran;
        long = length-append x.new y.new ∙ all_both (length x.new) (length y.new) (length r.ops) (length (rounds counter op ty count next r.words).ops) x.long y.long ∙ sym (length-append r.ops (rounds counter op ty count next r.words).ops);
        stands = subst (λ d. StandFor d l (rounds counter op ty count next r.words).words vs) (append_assoc es x.new y.new) y.stands;
      }

  -- each round halves the words
  round_less : (at k : ℕ) (words : List LaneWord) → length words ≤ suc (suc k) → length (one_round counter op ty at words).words ≤ suc k
  round_less at k [] le = omega arith
  round_less at k (x ∷ []) le = omega arith
  round_less at k (x ∷ y ∷ words) le = let h = no_more (at + length (joined_by counter op ty y.mask at x y)) words in omega (arith, h, le)
    where
      no_more : (at : ℕ) (words : List LaneWord) → length (one_round counter op ty at words).words ≤ length words
      no_more at [] = omega arith
      no_more at (x ∷ []) = omega arith
      no_more at (x ∷ y ∷ words) = let h = no_more (at + length (joined_by counter op ty y.mask at x y)) words in omega (arith, h)

  one_word : (count at : ℕ) (words : List LaneWord) → length words ≤ suc count → length (rounds counter op ty count at words).words ≤ 1
  one_word zero at words le = omega (arith, le)
  one_word (suc count) at words le =
      let r : Round = one_round counter op ty at words in
      one_word count (at + length r.ops) r.words (round_less at count words le)

  -- a single word stands for all
  only_word : (es : List Entry) (l : ℕ) (words : List LaneWord) (v : ℕ) (vs : List ℕ) → length words ≤ 1 → StandFor es l words (v ∷ vs) → (first_place words < length es) × (word_at es (first_place words) ≡ in_turn joint v vs)
  only_word es l [] v vs le h = absurd (apart h)
    where
      apart : (v ∷ vs) ≡ [] → ⊥
      apart e = cc
  only_word es l (x ∷ y ∷ words) v vs le h = absurd (omega (arith, le))
  only_word es l (x ∷ []) v vs le h = by h.3.0 h.3.3 (sym (append_none h.3.0) ∙ ap (λ xs. h.3.0 ++ xs) (sym h.3.5) ∙ sym h.3.2)
    where
      by : (mine : List ℕ) → OneStands es x mine → mine ≡ v ∷ vs → (x.place < length es) × (word_at es x.place ≡ in_turn joint v vs)
      by [] k e = cc
      by (u ∷ us) k e = (k.2, k.3 ∙ ap (λ xs. whole xs) e)
        where
          whole : List ℕ → ℕ
          whole [] = 0
          whole (y ∷ ys) = in_turn joint y ys

  -- the words of lanes
  words_stand : (word l : ℕ) (es : List Entry) (bodies : List Body) (groups : List (List Entry)) → l + length bodies ≡ n → LanesStand live es l bodies groups → EachHasWord ty word groups → StandFor es l (lane_words l word bodies) (words_of word groups)
  words_stand word l es [] [] all h e = refl
  words_stand word l es [] (g ∷ groups) all h e = absurd h
  words_stand word l es (b ∷ bodies) (g ∷ groups) all h e = (
    refl,
    omega arith,
    omega (arith, all),
    (word_at g word ∷ [], words_of word groups, refl, (h.0, h.1, (h.2.1 word e.0).0, (h.2.1 word e.0).1), (λ i. absurd (apart i)), words_stand word (suc l) es bodies groups (omega (arith, all)) h.3 e.2),
  )
    where
      apart : (word_at g word ∷ []) ≡ [] → ⊥
      apart i = cc
  words_stand word l es (b ∷ bodies) [] all h e = (
    refl,
    omega arith,
    omega (arith, all),
    ([], [], refl, (h.0, h.1), (λ i. refl), words_stand word (suc l) es bodies [] (omega (arith, all)) h.2 tt),
  )

  all_words : (word : ℕ) (groups : List (List Entry)) → EachHasWord ty word groups → AllAre (IsWord ty) (words_of word groups)
  all_words word [] e = tt
  all_words word (g ∷ groups) e = (e.1, all_words word groups e.2)

  pub joined : (word : ℕ) (es : List Entry) (bodies : List Body) (g : List Entry) (groups : List (List Entry)) (t : Store) → length bodies ≡ n → LanesStand live es 0 bodies (g ∷ groups) → EachHasWord ty word (g ∷ groups)
      → (new : List Entry) × (operations_after core scope es (rounds counter op ty (length (lane_words 0 word bodies)) (length es) (lane_words 0 word bodies)).ops t ≡ went (es ++ new) t)
      × (first_place (rounds counter op ty (length (lane_words 0 word bodies)) (length es) (lane_words 0 word bodies)).words < length (es ++ new))
      × (word_at (es ++ new) (first_place (rounds counter op ty (length (lane_words 0 word bodies)) (length es) (lane_words 0 word bodies)).words) ≡ in_turn joint (word_at g word) (words_of word groups))
  joined word es bodies g groups t all h e =
      let words : List LaneWord = lane_words 0 word bodies in
      let r : Rounded es 0 (rounds counter op ty (length words) (length es) words) t (words_of word (g ∷ groups)) =
      rounds_stand (length words) words es (length es) 0 t (words_of word (g ∷ groups)) refl (words_stand word 0 es bodies (g ∷ groups) (omega (arith, all)) h e) (all_words word (g ∷ groups) e) in
      let o = only_word (es ++ r.new) 0 (rounds counter op ty (length words) (length es) words).words (word_at g word) (words_of word groups) (one_word (length words) (length es) words (omega arith)) r.stands in
      (r.new, r.ran, o.0, o.1)
