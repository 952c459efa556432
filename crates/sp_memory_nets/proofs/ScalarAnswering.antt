-- The nets on which accesses are to be answered.
use Rattle.std.proofs.Common.{◌≡◌, ℕ, zero, suc, ◌<◌, ◌≤◌, inl, inr, ◌==◌, Bool, true, false, cond, ◌&&◌, List, [], ◌∷◌, ◌++◌, length, map, slice_index_or, All, Contains, Option, Some, None, refl, sym, ap, subst, ◌∙◌, arith}
use Rattle.std.specs.List.{filter}
use Rattle.std.proofs.lemmas.Bool.{true≢false, and_parts, eqb-true, eq-eqb}
use Rattle.std.proofs.lemmas.List.{length-map, get_or-map}
use Rattle.std.proofs.lemmas.List.Elements.{All-map, All-contains, Contains-append_left, Contains-append_right, Contains-append_cases}
use Rattle.sp_netlist.specs.Signals.{Signals}
use Rattle.sp_mem.specs.declared.part.Touch.{Touch}
use Rattle.sp_mem.specs.Fits.{AreApart, words_of}
use Rattle.sp_op_nets.specs.Reserved.{Rise}
use Rattle.sp_circuit_ops.specs.declared.ops.WordNet.{WordNet}
use Rattle.sp_access_nets.specs.declared.access.AccessNets.{AccessNets}
use Rattle.sp_access_nets.specs.Laws.{net_in, answer_nets}
use Rattle.sp_memory_nets.specs.ScalarLists.{PlainTouch, plain_touch, answer_net, is_answered, is_reader, read_of, reads_to, answers_to}
use Rattle.sp_memory_nets.specs.ScalarRuns.{Follows, IsFollowed}
use Rattle.sp_memory_nets.proofs.ScalarPicked.{none_there, here, there, first_or_later, picked, mapped, from_picked}

-- an access of a list that is to be answered on a net
pub record AnswersOn (accesses : List AccessNets) (net : ℕ) (a : AccessNets) : Type 0 where
  pub word : WordNet
  pub is : Contains accesses a
  pub answer : a.answer ≡ Some word
  pub on : word.net ≡ net

is_some : (o : Option WordNet) → is_answered o ≡ true → (w : WordNet) × (o ≡ Some w)
is_some (Some w) h = (w, refl)
is_some None h = absurd (true≢false (sym h))

both_true : (a b : Bool) → a ≡ true → b ≡ true → (a && b) ≡ true
both_true true b e f = f
both_true false b e f = e

pub reader_answers : (m : ℕ) (a : AccessNets) → is_reader m a ≡ true → (a.mem ≡ m) × (w : WordNet) × (a.answer ≡ Some w)
reader_answers m a h = let p = and_parts (a.mem == m) (is_answered a.answer) h in let w = is_some a.answer p.1 in (eqb-true a.mem m p.0, w.0, w.1)

pub answers_reader : (m : ℕ) (a : AccessNets) (w : WordNet) → a.mem ≡ m → a.answer ≡ Some w → is_reader m a ≡ true
answers_reader m a w e h = both_true (a.mem == m) (is_answered a.answer) (eq-eqb a.mem m e) (ap is_answered h)

one_of : (o : Option WordNet) (n : ℕ) → Contains (net_in o) n → (w : WordNet) × (o ≡ Some w) × (w.net ≡ n)
one_of (Some w) n c = elim (first_or_later w.net n [] c) [ inl e ↦ (w, refl, e) | inr none ↦ absurd (none_there n none) ]
one_of None n c = absurd (none_there n c)

pub in_answers : (accesses : List AccessNets) (n : ℕ) → Contains (answer_nets accesses) n → (a : AccessNets) × AnswersOn accesses n a
in_answers [] n c = absurd (none_there n c)
in_answers (a ∷ accesses) n c = elim (Contains-append_cases (net_in a.answer) (answer_nets accesses) n c) [
  | inl own ↦ let w = one_of a.answer n own in (a, record { word = w.0; is = here a a accesses refl; answer = w.1; on = w.2 })
  | inr later ↦ let rest = in_answers accesses n later in (rest.0, record { word = rest.1.word; is = there a rest.0 accesses rest.1.is; answer = rest.1.answer; on = rest.1.on })
]

pub answers_in : (accesses : List AccessNets) (a : AccessNets) (w : WordNet) → Contains accesses a → a.answer ≡ Some w → Contains (answer_nets accesses) w.net
answers_in [] a w c h = absurd (none_there a c)
answers_in (x ∷ accesses) a w c h = elim (first_or_later x a accesses c) [
  | inl e ↦ Contains-append_left (net_in x.answer) (answer_nets accesses) w.net (subst (λ o. Contains (net_in o) w.net) (sym (ap (λ (y : AccessNets). y.answer) e ∙ h)) (here w.net w.net [] refl))
  | inr later ↦ Contains-append_right (net_in x.answer) (answer_nets accesses) w.net (answers_in accesses a w later h)
]

twice : (xs : List AccessNets) → map (λ (p : PlainTouch). p.word) (map read_of xs) ≡ map (λ (a : AccessNets). answer_net a.answer) xs
twice [] = refl
twice (x ∷ xs) = ap (λ ns. answer_net x.answer ∷ ns) (twice xs)

module _ (m : ℕ) (accesses : List AccessNets) where
  found : (n : ℕ) → Contains (map (λ (a : AccessNets). answer_net a.answer) (filter (is_reader m) accesses)) n → (a : AccessNets) × (a.mem ≡ m) × AnswersOn accesses n a
  found n k =
      let f = from_picked (λ (a : AccessNets). answer_net a.answer) (is_reader m) accesses n k in
      let r = reader_answers m f.0 f.2 in
      (f.0, r.0, record { word = r.1; is = f.1; answer = r.2; on = sym (ap answer_net r.2) ∙ f.3 })

  pub in_answers_to : (n : ℕ) → Contains (answers_to m accesses) n → (a : AccessNets) × (a.mem ≡ m) × AnswersOn accesses n a
  in_answers_to n c = found n (subst (λ ns. Contains ns n) (twice (filter (is_reader m) accesses)) c)

  pub read_in : (a : AccessNets) (w : WordNet) → Contains accesses a → a.mem ≡ m → a.answer ≡ Some w → Contains (reads_to m accesses) (read_of a)
  read_in a w c e h = picked read_of (is_reader m) accesses a c (answers_reader m a w e h)

  pub answer_in_to : (a : AccessNets) → Contains accesses a → is_reader m a ≡ true → Contains (answers_to m accesses) (answer_net a.answer)
  answer_in_to a c t = mapped (λ (p : PlainTouch). p.word) (reads_to m accesses) (read_of a) (picked read_of (is_reader m) accesses a c t)

twice_words : (reads : List Touch) → words_of reads ≡ map (λ (p : PlainTouch). p.word) (map plain_touch reads)
twice_words [] = refl
twice_words (r ∷ reads) = ap (λ ns. r.word ∷ ns) (twice_words reads)

-- the nets of the readers
pub words_are : (m : ℕ) (accesses : List AccessNets) (reads : List Touch) → map plain_touch reads ≡ reads_to m accesses → words_of reads ≡ answers_to m accesses
words_are m accesses reads e = twice_words reads ∙ ap (map (λ (p : PlainTouch). p.word)) e

lower : (from to : ℕ) (ns : List ℕ) → from ≤ to → Rise to ns → Rise from ns
lower from to [] le r = tt
lower from to (n ∷ ns) le r = ((let l = r.0 in omega (arith, l, le)), r.1)

above : (from : ℕ) (ns : List ℕ) (n : ℕ) → Rise from ns → Contains ns n → from ≤ n
above from [] n r c = absurd (none_there n c)
above from (x ∷ ns) n r c = elim (first_or_later x n ns c) [
  | inl e ↦ (let l = r.0 in omega (arith, l, e))
  | inr later ↦ (let up = above (suc x) ns n r.1 later in let l = r.0 in omega (arith, l, up))
]

above_at : (from : ℕ) (ns : List ℕ) (k d : ℕ) → Rise from ns → k < length ns → from ≤ slice_index_or ns k d
above_at from [] k d r l = absurd (omega (arith, l))
above_at from (x ∷ ns) zero d r l = r.0
above_at from (x ∷ ns) (suc k) d r l = (let up = above_at (suc x) ns k d r.1 (omega (arith, l)) in let low = r.0 in omega (arith, low, up))

-- numbers that rise are apart
rise_apart : (from : ℕ) (ns : List ℕ) (i k d e : ℕ) → Rise from ns → i < k → k < length ns → slice_index_or ns i d ≡ slice_index_or ns k e → ⊥
rise_apart from [] i k d e r lt l same = omega (arith, l)
rise_apart from (x ∷ ns) i zero d e r lt l same = omega (arith, lt)
rise_apart from (x ∷ ns) zero (suc k) d e r lt l same = (let up = above_at (suc x) ns k e r.1 (omega (arith, l)) in omega (arith, up, same))
rise_apart from (x ∷ ns) (suc i) (suc k) d e r lt l same = rise_apart (suc x) ns i k d e r.1 (omega (arith, lt)) (omega (arith, l)) same

pub apart : (reads : List Touch) → Rise 0 (words_of reads) → AreApart reads
apart reads r i k d lt l same =
    let e = length-map reads (λ (x : Touch). x.word) in
    rise_apart 0 (words_of reads) i k d.word d.word r lt (omega (arith, e, l))
    (get_or-map (λ (x : Touch). x.word) reads i d d.word (omega (arith, lt, l)) ∙ same ∙ sym (get_or-map (λ (x : Touch). x.word) reads k d d.word l))

rise_behind : (o : Option WordNet) (from : ℕ) (ns : List ℕ) → Rise from (net_in o ++ ns) → Rise from ns
rise_behind (Some w) from ns r = lower from (suc w.net) ns (let l = r.0 in omega (arith, l)) r.1
rise_behind None from ns r = r

-- of the answers of all accesses those of one memory rise, too
pub rise_to : (m from : ℕ) (accesses : List AccessNets) → Rise from (answer_nets accesses) → Rise from (answers_to m accesses)
rise_to m from [] r = tt
rise_to m from (x ∷ accesses) r = by_case (x.mem == m) x.answer refl from (λ to h. rise_to m to accesses h) r
  where
    by_case : (b : Bool) (o : Option WordNet) → x.answer ≡ o → (from : ℕ) → ((to : ℕ) → Rise to (answer_nets accesses) → Rise to (answers_to m accesses)) → Rise from (net_in o ++ answer_nets accesses)
        → Rise from (map (λ (p : PlainTouch). p.word) (map read_of (cond (b && is_answered o) (x ∷ filter (is_reader m) accesses) (filter (is_reader m) accesses))))
    by_case true (Some w) e from rest r = ((let l = r.0 in let n = ap answer_net e in omega (arith, l, n)), subst (λ n. Rise (suc n) (answers_to m accesses)) (sym (ap answer_net e)) (rest (suc w.net) r.1))
    by_case true None e from rest r = rest from r
    by_case false o e from rest r = rest from (rise_behind o from (answer_nets accesses) r)

-- one net answers one access
pub one_access : (from : ℕ) (accesses : List AccessNets) (n : ℕ) (a b : AccessNets) → Rise from (answer_nets accesses) → AnswersOn accesses n a → AnswersOn accesses n b → a ≡ b
one_access from [] n a b r h k = absurd (none_there a h.is)
one_access from (x ∷ accesses) n a b r h k = elim (first_or_later x a accesses h.is) [
  | inl e ↦ elim (first_or_later x b accesses k.is) [
    | inl f ↦ sym e ∙ f
    | inr later ↦ absurd (not_both x accesses from n h.word (ap (λ (y : AccessNets). y.answer) e ∙ h.answer) h.on r (subst (Contains (answer_nets accesses)) k.on (answers_in accesses b k.word later k.answer)))
  ]
  | inr before ↦ elim (first_or_later x b accesses k.is) [
    | inl f ↦ absurd (not_both x accesses from n k.word (ap (λ (y : AccessNets). y.answer) f ∙ k.answer) k.on r (subst (Contains (answer_nets accesses)) h.on (answers_in accesses a h.word before h.answer)))
    | inr later ↦
        one_access from accesses n a b (rise_behind x.answer from (answer_nets accesses) r)
        (record { word = h.word; is = before; answer = h.answer; on = h.on }) (record { word = k.word; is = later; answer = k.answer; on = k.on })
  ]
]
  where
    not_both : (x : AccessNets) (accesses : List AccessNets) (from n : ℕ) (w : WordNet) → x.answer ≡ Some w → w.net ≡ n → Rise from (net_in x.answer ++ answer_nets accesses) → Contains (answer_nets accesses) n → ⊥
    not_both x accesses from n w e on r c =
        let rising : Rise from (w.net ∷ answer_nets accesses) = subst (λ o. Rise from (net_in o ++ answer_nets accesses)) e r in
        (let up = above (suc w.net) (answer_nets accesses) n rising.1 c in omega (arith, up, on))

-- where each reader follows a net, so does each answer
pub followed : (s : Signals) (m : ℕ) (accesses : List AccessNets) (net : ℕ) (reads : List Touch) → map plain_touch reads ≡ reads_to m accesses → All (Follows s net) reads → IsFollowed s accesses m net
followed s m accesses net reads e h a w c is answer t =
    let all = subst (All (Later s net)) e (All-map (Later s net) plain_touch reads h) in
    subst (λ n. s.net (suc t) n ≡ s.net t net) (ap answer_net answer) (All-contains (Later s net) (reads_to m accesses) (read_of a) all (read_in m accesses a w c is answer) t)
  where
    Later : Signals → ℕ → PlainTouch → Type 0
    Later s net p = (t : ℕ) → s.net (suc t) p.word ≡ s.net t net
