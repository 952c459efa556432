-- Contents of places agree with the first store.
use Rattle.std.proofs.Common.{◌≡◌, ℕ, zero, suc, ◌+◌, ◌-◌, ◌<◌, ◌≤◌, inl, inr, Bool, true, false, cond, List, [], ◌∷◌, ◌++◌, map, length, arith, refl, sym, subst, ap, ◌∙◌, lt-ltb, le-ltb}
use Rattle.std.proofs.Math.Seq.{get_or-append_right}
use Rattle.std.proofs.lemmas.Bool.{and_parts, cases_eq, cases_lt, ltb-true}
use Rattle.std.proofs.lemmas.List.{get_or_append_left, length-append, length-map}
use Rattle.std.specs.Prelude.{nat_lt, Option, Some, None, slice_index_or}
use Rattle.std.specs.List.{AllZip}
use Rattle.sp_words.specs.declared.kind.Kind.{Kind}
use Rattle.sp_words.specs.declared.kind.Kind.TheVariants as kinds
use Rattle.sp_words.specs.Interface.{word_count}
use Rattle.sp_words.specs.Memory.{Contents, words}
use Rattle.sp_words.specs.Ports.{PlainInput}
use Rattle.sp_core.specs.Declarations.{mem, dram, kind_of, dims, dram_number}
use Rattle.sp_core.specs.Elements.{numbers_below}
use Rattle.sp_core.specs.Inputs.{InputFits}
use Rattle.sp_core.specs.Meaning.{is_arg, is_out, numbers_of, args_of, outs_of, drams_of, hold_each, first_store}
use Rattle.sp_core.specs.PlainCore.{PlainMem, no_mem, no_port, PlainCore}
use Rattle.sp_core.specs.Store.{Store, hold, cells_of, queue_of, rows_of, words_of}
use Rattle.sp_contents.specs.Found.{contents_at, first_contents, FirstContentsAgree}
use Rattle.sp_contents.specs.Held.{IsShaped, Holds}
use Rattle.sp_contents.specs.Trees.{hand_of, first_hand}
use Rattle.sp_contents.proofs.Allowed.{no_dram_here}
use Rattle.sp_contents.proofs.ByKind.{no_some, shaped_fresh}
use Rattle.sp_contents.proofs.Following.{changed_same, changed_other}

-- stores that hold words alone
abbrev HoldsWords : Store → Type 0
HoldsWords s = (m : ℕ) → (cells_of (s m) ≡ []) × (queue_of (s m) ≡ [])

hold_words : (s : Store) (k : ℕ) (ws : List ℕ) → HoldsWords s → HoldsWords (hold s k (words ws))
hold_words s k ws h m = elim (cases_eq m k) [
  | inl e ↦ let q : hold s k (words ws) m ≡ Some (words ws) = ap (hold s k (words ws)) e ∙ changed_same s k (Some (words ws)) in (ap cells_of q, ap queue_of q)
  | inr n ↦ let q : hold s k (words ws) m ≡ s m = changed_other s k (Some (words ws)) m n in (ap cells_of q ∙ (h m).0, ap queue_of q ∙ (h m).1)
]

each_words : (ms : List ℕ) (all : List (List ℕ)) (s : Store) → HoldsWords s → HoldsWords (hold_each ms all s)
each_words [] all s h = h
each_words (m ∷ ms) [] s h = h
each_words (m ∷ ms) (ws ∷ all) s h = each_words ms all (hold s m (words ws)) (hold_words s m ws h)

-- what holds of the words of a memory, by its number
module _ (P : ℕ → List ℕ → Type 0) where
  abbrev Zip : List ℕ → List (List ℕ) → Type 0
  Zip (m ∷ ms) (ws ∷ all) = P m ws × Zip ms all
  Zip _ _ = Unit {0}

  hold_now : (s : Store) (k : ℕ) (ws : List ℕ) → P k ws → P k (words_of (hold s k (words ws) k))
  hold_now s k ws h = subst (λ c. P k (words_of c)) (sym (changed_same s k (Some (words ws)))) h

  -- it holds on where it did, and then of each of the list
  each_keeps : (ms : List ℕ) (all : List (List ℕ)) (s : Store) → Zip ms all → (x : ℕ) → P x (words_of (s x)) → P x (words_of (hold_each ms all s x))
  each_keeps [] all s z x h = h
  each_keeps (m ∷ ms) [] s z x h = h
  each_keeps (m ∷ ms) (ws ∷ all) s z x h = each_keeps ms all (hold s m (words ws)) z.1 x (elim (cases_eq x m) [
    | inl e ↦ subst (λ y. P y (words_of (hold s m (words ws) y))) (sym e) (hold_now s m ws z.0)
    | inr n ↦ subst (λ c. P x (words_of c)) (sym (changed_other s m (Some (words ws)) x n)) h
  ])

  each_holds : (ms : List ℕ) (all : List (List ℕ)) (s : Store) → Zip ms all → (i : ℕ) → i < length ms → i < length all → P (slice_index_or ms i 0) (words_of (hold_each ms all s (slice_index_or ms i 0)))
  each_holds [] all s z i l q = absurd (omega (arith, l))
  each_holds (m ∷ ms) [] s z i l q = absurd (omega (arith, q))
  each_holds (m ∷ ms) (ws ∷ all) s z zero l q = each_keeps ms all (hold s m (words ws)) z.1 m (hold_now s m ws z.0)
  each_holds (m ∷ ms) (ws ∷ all) s z (suc i) l q = each_holds ms all (hold s m (words ws)) z.1 i (omega arith) (omega arith)

  zip_by : (ms : List ℕ) (all : List (List ℕ)) → ((i : ℕ) → i < length ms → i < length all → P (slice_index_or ms i 0) (slice_index_or all i [])) → Zip ms all
  zip_by [] all h = tt
  zip_by (m ∷ ms) [] h = tt
  zip_by (m ∷ ms) (ws ∷ all) h = (h 0 (omega arith) (omega arith), zip_by ms all (λ i l q. h (suc i) (omega arith) (omega arith)))

-- numbers below n, each made another one
numbers_length : (n : ℕ) → length (numbers_below n) ≡ n
numbers_length zero = refl
numbers_length (suc n) = length-append (numbers_below n) (n ∷ []) ∙ (let e : length (numbers_below n) ≡ n = numbers_length n in let q : length (numbers_below n) + 1 ≡ suc n = omega arith in q)

number_at : (n i : ℕ) → i < n → slice_index_or (numbers_below n) i 0 ≡ i
number_at zero i l = absurd (omega (arith, l))
number_at (suc n) i l = elim (cases_lt i n) [
  | inl q ↦ get_or_append_left (numbers_below n) (n ∷ []) 0 i (let e : length (numbers_below n) ≡ n = numbers_length n in omega arith) ∙ number_at n i q
  | inr q ↦ (
      let e : length (numbers_below n) ≡ n = numbers_length n in
      get_or-append_right (numbers_below n) (n ∷ []) i 0 (omega arith) ∙ ap (λ k. slice_index_or (n ∷ []) k 0) (let z : i - length (numbers_below n) ≡ 0 = omega arith in z) ∙ (let z : n ≡ i = omega arith in z)
      )
]

map_at : (f : ℕ → ℕ) (ns : List ℕ) (i : ℕ) → i < length ns → slice_index_or (map f ns) i 0 ≡ f (slice_index_or ns i 0)
map_at f [] i l = absurd (omega (arith, l))
map_at f (n ∷ ns) zero l = refl
map_at f (n ∷ ns) (suc i) l = map_at f ns i (omega arith)

zip_length : {A B : Type 0} (R : A → B → Type 0) (xs : List A) (ys : List B) → AllZip R xs ys → length xs ≡ length ys
zip_length R [] [] h = refl
zip_length R [] (y ∷ ys) h = absurd h
zip_length R (x ∷ xs) [] h = absurd h
zip_length R (x ∷ xs) (y ∷ ys) h = ap suc (zip_length R xs ys h.1)

zip_at : {A B : Type 0} (R : A → B → Type 0) (xs : List A) (ys : List B) (a : A) (b : B) → AllZip R xs ys → (i : ℕ) → i < length xs → R (slice_index_or xs i a) (slice_index_or ys i b)
zip_at R [] ys a b h i l = absurd (omega (arith, l))
zip_at R (x ∷ xs) [] a b h i l = absurd h
zip_at R (x ∷ xs) (y ∷ ys) a b h zero l = h.0
zip_at R (x ∷ xs) (y ∷ ys) a b h (suc i) l = zip_at R xs ys a b h.1 i (omega arith)

-- memories of one kind
in_numbers : (is : Kind → Bool) (first : ℕ) (ms : List PlainMem) (i : ℕ) → i < length ms → is (slice_index_or ms i no_mem).kind ≡ true → (j : ℕ) × (j < length (numbers_of is first ms)) × (slice_index_or (numbers_of is first ms) j 0 ≡ first + i)
in_numbers is first [] i l e = absurd (omega (arith, l))
in_numbers is first (m ∷ ms) zero l e = subst (λ b. (j : ℕ) × (j < length (cond b (first ∷ []) [] ++ numbers_of is (suc first) ms)) × (slice_index_or (cond b (first ∷ []) [] ++ numbers_of is (suc first) ms) j 0 ≡ first + 0)) (sym e)
    (0, omega arith, (let z : first ≡ first + 0 = omega arith in z))
in_numbers is first (m ∷ ms) (suc i) l e = go (is m.kind) (in_numbers is (suc first) ms i (omega arith) e)
  where
    go : (b : Bool) → (j : ℕ) × (j < length (numbers_of is (suc first) ms)) × (slice_index_or (numbers_of is (suc first) ms) j 0 ≡ suc first + i)
        → (j : ℕ) × (j < length (cond b (first ∷ []) [] ++ numbers_of is (suc first) ms)) × (slice_index_or (cond b (first ∷ []) [] ++ numbers_of is (suc first) ms) j 0 ≡ first + suc i)
    go true r = (suc r.0, (let q : r.0 < length (numbers_of is (suc first) ms) = r.1 in omega arith), r.2 ∙ (let z : suc first + i ≡ first + suc i = omega arith in z))
    go false r = (r.0, r.1, r.2 ∙ (let z : suc first + i ≡ first + suc i = omega arith in z))

numbers_under : (is : Kind → Bool) (first : ℕ) (ms : List PlainMem) (i : ℕ) → i < length (numbers_of is first ms) → slice_index_or (numbers_of is first ms) i 0 < first + length ms
numbers_under is first [] i l = absurd (omega (arith, l))
numbers_under is first (m ∷ ms) i l = go (is m.kind) (λ j q. numbers_under is (suc first) ms j q) i l
  where
    go : (b : Bool) → ((j : ℕ) → j < length (numbers_of is (suc first) ms) → slice_index_or (numbers_of is (suc first) ms) j 0 < suc first + length ms) → (i : ℕ) → i < length (cond b (first ∷ []) [] ++ numbers_of is (suc first) ms)
        → slice_index_or (cond b (first ∷ []) [] ++ numbers_of is (suc first) ms) i 0 < first + suc (length ms)
    go true h zero l = omega arith
    go true h (suc i) l = let a : slice_index_or (numbers_of is (suc first) ms) i 0 < suc first + length ms = h i (omega arith) in omega arith
    go false h i l = let a : slice_index_or (numbers_of is (suc first) ms) i 0 < suc first + length ms = h i l in omega arith

single_words : (f : ℕ → ℕ) (xs : List ℕ) (i : ℕ) → i < length (map (λ x. f x ∷ []) xs) → 0 < length (slice_index_or (map (λ x. f x ∷ []) xs) i [])
single_words f [] i l = absurd (omega (arith, l))
single_words f (x ∷ xs) zero l = omega arith
single_words f (x ∷ xs) (suc i) l = single_words f xs i (omega arith)

abbrev IsOut : Kind → Type 0
IsOut kinds.ArgOut = Unit {0}
IsOut _ = ⊥

-- what a word is kept for: a DRAM has as many as its dimensions say, an output has one at least
abbrev IsFull : PlainCore → ℕ → List ℕ → Type 0
IsFull core m ws = (length core.mems ≤ m → length ws ≡ word_count (dims core m)) × (m < length core.mems → 0 < length ws)

module _ (core : PlainCore) (input : PlainInput) (fits : InputFits core input) (dram_place : (m : ℕ) → kind_of core m ≡ kinds.Dram → length core.mems ≤ m) where
  abbrev Full : ℕ → List ℕ → Type 0
  Full m ws = IsFull core m ws

  dram_dims : (r : ℕ) → dims core (dram_number core r) ≡ (dram core r).dims
  dram_dims r =
      ap (λ b. cond b (mem core (dram_number core r)).dims (dram core (dram_number core r - length core.mems)).dims) (le-ltb (dram_number core r) (length core.mems) (omega arith))
      ∙ ap (λ k. (dram core k).dims) (let e : dram_number core r - length core.mems ≡ r = omega arith in e)

  drams_count : length (drams_of core) ≡ length core.ports.drams
  drams_count = length-map (numbers_below (length core.ports.drams)) (dram_number core) ∙ numbers_length (length core.ports.drams)

  input_count : length core.ports.drams ≡ length input.drams
  input_count = zip_length _ core.ports.drams input.drams fits.drams

  number_of : (i : ℕ) → i < length core.ports.drams → slice_index_or (drams_of core) i 0 ≡ dram_number core i
  number_of i l =
      map_at (dram_number core) (numbers_below (length core.ports.drams)) i (let e : length (numbers_below (length core.ports.drams)) ≡ length core.ports.drams = numbers_length (length core.ports.drams) in omega arith)
      ∙ ap (dram_number core) (number_at (length core.ports.drams) i l)

  drams_zip : Zip Full (drams_of core) input.drams
  drams_zip = zip_by Full (drams_of core) input.drams (λ i l q.
      let below : i < length core.ports.drams = (let e : length (drams_of core) ≡ length core.ports.drams = drams_count in omega arith) in
      let right = zip_at _ core.ports.drams input.drams no_port [] fits.drams i below in
      subst (λ m. Full m (slice_index_or input.drams i [])) (sym (number_of i below)) ((λ z. right.0 ∙ sym (ap word_count (dram_dims i))), λ z. absurd (omega (arith, z))))

  -- memories of one kind, with a word each
  ones : (is : Kind → Bool) (all : List (List ℕ)) → ((i : ℕ) → i < length all → 0 < length (slice_index_or all i [])) → Zip Full (numbers_of is 0 core.mems) all
  ones is all some = zip_by Full (numbers_of is 0 core.mems) all (λ i l q. ((λ z. let b : slice_index_or (numbers_of is 0 core.mems) i 0 < 0 + length core.mems = numbers_under is 0 core.mems i l in absurd (omega arith)), λ z. some i q))

  abbrev start_store : Store
  start_store = (λ m. None)

  abbrev zeros : List (List ℕ)
  zeros = map (λ m. 0 ∷ []) (outs_of core)

  abbrev given : List (List ℕ)
  given = map (λ w. w ∷ []) input.args

  abbrev with_outs : Store
  with_outs = hold_each (outs_of core) zeros start_store

  abbrev with_drams : Store
  with_drams = hold_each (drams_of core) input.drams with_outs

  outs_zip : Zip Full (outs_of core) zeros
  outs_zip = ones is_out zeros (λ i l. single_words (λ m. 0) (outs_of core) i l)

  args_zip : Zip Full (args_of core) given
  args_zip = ones is_arg given (λ i l. single_words (λ w. w) input.args i l)

  -- DRAMs and outputs
  dram_full : (r : ℕ) → r < length core.ports.drams → Full (dram_number core r) (words_of (first_store core input (dram_number core r)))
  dram_full r l =
      each_keeps Full (args_of core) given with_drams args_zip (dram_number core r)
      (subst (λ m. Full m (words_of (with_drams m))) (number_of r l) (each_holds Full (drams_of core) input.drams with_outs drams_zip r (let e : length (drams_of core) ≡ length core.ports.drams = drams_count in omega arith) (let e : length core.ports.drams ≡ length input.drams = input_count in omega arith)))

  out_full : (m : ℕ) → m < length core.mems → (mem core m).kind ≡ kinds.ArgOut → Full m (words_of (first_store core input m))
  out_full m l e =
      let at = in_numbers is_out 0 core.mems m l (ap is_out e) in
      each_keeps Full (args_of core) given with_drams args_zip m
      (each_keeps Full (drams_of core) input.drams with_outs drams_zip m
      (subst (λ x. Full x (words_of (with_outs x))) (at.2 ∙ (let z : 0 + m ≡ m = omega arith in z)) (each_holds Full (outs_of core) zeros start_store outs_zip at.0 at.1 (let q : length zeros ≡ length (outs_of core) = length-map (outs_of core) (λ m. 0 ∷ []) in let b : at.0 < length (outs_of core) = at.1 in omega arith))))

  words_alone : HoldsWords (first_store core input)
  words_alone = each_words (args_of core) given with_drams (each_words (drams_of core) input.drams with_outs (each_words (outs_of core) zeros start_store (λ m. (refl, refl))))

  abbrev at : (m i : ℕ) → Option Contents
  at m i = contents_at core (kind_of core m) (dims core m) (first_store core input m) i

  -- a number of a kind
  out_number : (m : ℕ) → kind_of core m ≡ kinds.ArgOut → m < length core.mems
  out_number m e = elim (cases_lt m (length core.mems)) [
    | inl l ↦ l
    | inr l ↦ absurd (subst IsOut (sym (sym (ap (λ b. cond b (mem core m).kind kinds.Dram) (le-ltb m (length core.mems) l)) ∙ e)) tt)
  ]

  out_full_at : (m : ℕ) → kind_of core m ≡ kinds.ArgOut → 0 < length (words_of (first_store core input m))
  out_full_at m e =
      let l : m < length core.mems = out_number m e in
      (out_full m l (sym (ap (λ b. cond b (mem core m).kind kinds.Dram) (lt-ltb m (length core.mems) l)) ∙ e)).1 l

  dram_full_at : (m : ℕ) → m < length core.mems + length core.ports.drams → length core.mems ≤ m → length (words_of (first_store core input m)) ≡ word_count (dims core m)
  dram_full_at m l q =
      subst (λ x. length (words_of (first_store core input x)) ≡ word_count (dims core x)) (let z : dram_number core (m - length core.mems) ≡ m = omega arith in z)
      ((dram_full (m - length core.mems) (omega arith)).0 (omega arith))

  -- by the kind of the memory
  holds : (m : ℕ) (k : Kind) → kind_of core m ≡ k → m < length core.mems + length core.ports.drams → (k ≡ kinds.LineBuf → ⊥) → Holds core k (dims core m) (first_store core input m) (λ i. contents_at core k (dims core m) (first_store core input m) i)
  holds m kinds.Reg e l n = λ w q. absurd (no_some w (sym (ap (λ cs. slice_index_or cs 0 None) (words_alone m).0) ∙ q))
  holds m kinds.Sram e l n = λ i w q. absurd (no_some w (sym (ap (λ cs. slice_index_or cs i None) (words_alone m).0) ∙ q))
  holds m kinds.Fifo e l n = (words_alone m).1
  holds m kinds.LineBuf e l n = absurd (n refl)
  holds m kinds.Dram e l n = (dram_full_at m l (dram_place m e), λ i b. refl)
  holds m kinds.ArgIn e l n = refl
  holds m kinds.ArgOut e l n = (out_full_at m e, refl)

  first_held : (m copy : ℕ) → first_hand core m ≡ Some copy → Holds core (kind_of core m) (dims core m) (first_store core input m) (λ i. first_contents core input (record { mem = m; copy = copy; element = i }))
  first_held m copy e = go (nat_lt m (length core.mems + length core.ports.drams)) refl e
    where
      no_line : (k : Kind) → hand_of k ≡ Some copy → k ≡ kinds.LineBuf → ⊥
      no_line k q z = no_some copy (subst (λ x. hand_of x ≡ Some copy) z q)

      go : (b : Bool) → nat_lt m (length core.mems + length core.ports.drams) ≡ b → cond b (hand_of (kind_of core m)) None ≡ Some copy
          → Holds core (kind_of core m) (dims core m) (first_store core input m) (λ i. contents_at core (kind_of core m) (dims core m) (first_store core input m) i)
      go true q z = holds m (kind_of core m) refl (ltb-true _ _ q) (no_line (kind_of core m) z)
      go false q z = absurd (no_some copy z)

  first_lines : (m copy : ℕ) → kind_of core m ≡ kinds.LineBuf → IsShaped (dims core m) (rows_of (first_contents core input (record { mem = m; copy = copy; element = 0 })))
  first_lines m copy e = subst (λ k. IsShaped (dims core m) (rows_of (contents_at core k (dims core m) (first_store core input m) 0))) (sym e) (shaped_fresh (dims core m))

pub first_contents_agree : (core : PlainCore) → FirstContentsAgree core
first_contents_agree core w input fits = record { held = first_held core input fits place; lines = first_lines core input fits place }
  where
    place : (m : ℕ) → kind_of core m ≡ kinds.Dram → length core.mems ≤ m
    place m e = elim (cases_lt m (length core.mems)) [
      | inl l ↦ absurd (no_dram_here core (and_parts _ _ w.memories).0 m l (sym (ap (λ b. cond b (mem core m).kind kinds.Dram) (lt-ltb m (length core.mems) l)) ∙ e))
      | inr l ↦ l
    ]
