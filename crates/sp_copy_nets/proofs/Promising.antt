-- Nets of numbers that are promised, and await what drives them.
use Rattle.std.proofs.Common.{◌≡◌, ℕ, zero, suc, ◌+◌, ◌<◌, ◌≤◌, ⊎_elim, inl, List, [], ◌∷◌, ◌++◌, length, Contains, All, take, drop, slice_index_or, Option, Some, None, append_assoc, refl, sym, ap, subst, ◌∙◌, arith}
use Rattle.std.proofs.lemmas.List.{take_more, append-nil}
use Rattle.std.proofs.lemmas.List.Elements.{Contains-append_right, Contains-append_left, Contains-append_cases}
use Rattle.sp_netlist.specs.Draft.{Draft}
use Rattle.sp_gates.specs.Grows.{Fills, Opens}
use Rattle.sp_gates.specs.Nets.{Awaits}
use Rattle.sp_gates.proofs.Growing.{Fills-join}
use Rattle.sp_sequence.proofs.Waiting.{awaits_beside}
use Rattle.sp_op_nets.specs.Reserved.{Rise, Reserves}
use Rattle.sp_op_nets.proofs.Driving.{stay}
use Rattle.sp_op_nets.proofs.Giving.{above}
use Rattle.sp_op_nets.proofs.Reserving.{one_reserved, reserved_join, same_reserved}
use Rattle.sp_copy_nets.specs.declared.part.SlotNumbers.{SlotNumbers}
use Rattle.sp_copy_nets.specs.Fits.{given_nets, number_nets, HasCopies, AreCopied, AwaitNumbers, NumbersFit, Promises}
use Rattle.sp_copy_nets.specs.Numbers.{StandNumbers}
use Rattle.sp_copy_nets.specs.Table.{slot_numbers}

none_in : (x : ℕ) → Contains [] x → ⊥
none_in x c = let l = c.1 in absurd (omega (arith, l))

one_in : (x y : ℕ) → Contains (x ∷ []) y → y ≡ x
one_in x y (zero, l, e) = sym e
one_in x y (suc k, l, e) = absurd (omega (arith, l))

pub given_append : (xs ys : List (Option ℕ)) → given_nets (xs ++ ys) ≡ given_nets xs ++ given_nets ys
given_append [] ys = refl
given_append (None ∷ xs) ys = given_append xs ys
given_append (Some n ∷ xs) ys = ap (λ ns. n ∷ ns) (given_append xs ys)

pub numbers_append : (xs ys : List SlotNumbers) → number_nets (xs ++ ys) ≡ number_nets xs ++ number_nets ys
numbers_append [] ys = refl
numbers_append (x ∷ xs) ys = ap (λ ns. given_nets x.nets.items ++ ns) (numbers_append xs ys) ∙ sym (append_assoc (given_nets x.nets.items) (number_nets xs) (number_nets ys))

-- promises in turn
pub no_promise : (a : Draft) → Promises a a []
no_promise a = record { reserves = same_reserved a; each = λ n k. absurd (none_in n k) }

pub one_promise : (a b : Draft) (net : ℕ) → Opens a b net → Awaits b net 32 → Promises a b (net ∷ [])
one_promise a b net o h = record { reserves = one_reserved a b net 32 o h; each = λ n k. subst (λ m. Awaits b m 32) (sym (one_in net n k)) h }

pub promises_join : (a b c : Draft) (xs ys : List ℕ) → Promises a b xs → Promises b c ys → Promises a c (xs ++ ys)
promises_join a b c xs ys p q = record {
  reserves = reserved_join a b c xs ys p.reserves q.reserves;
  each = λ n k. ⊎_elim (λ l. stay b c n 32 ys (p.each n l) q.reserves) (λ m. q.each n m) (Contains-append_cases xs ys n k);
}

rise_lower : (from to : ℕ) (ns : List ℕ) → from ≤ to → Rise to ns → Rise from ns
rise_lower from to [] le r = tt
rise_lower from to (n ∷ ns) le r = ((let l = r.0 in omega (arith, le, l)), r.1)

pub promised_await : (a b : Draft) (nets : List ℕ) → Promises a b nets → AwaitNumbers b nets
promised_await a b nets p = record { rise = rise_lower 0 (length a.promised) nets (omega arith) p.reserves.rise; each = p.each }

-- what awaits still does, where others were driven or reserved
rise_right : (from : ℕ) (xs ys : List ℕ) → Rise from (xs ++ ys) → Rise 0 ys
rise_right from [] ys r = rise_lower 0 from ys (omega arith) r
rise_right from (x ∷ xs) ys r = rise_right (suc x) xs ys r.1

rise_left : (from : ℕ) (xs ys : List ℕ) → Rise from (xs ++ ys) → Rise from xs
rise_left from [] ys r = tt
rise_left from (x ∷ xs) ys r = (r.0, rise_left (suc x) xs ys r.1)

rise_apart : (from : ℕ) (xs ys : List ℕ) (n : ℕ) → Rise from (xs ++ ys) → Contains xs n → Contains ys n → ⊥
rise_apart from [] ys n r k m = none_in n k
rise_apart from (x ∷ xs) ys n r (zero, l, e) m = (let up = above (suc x) (xs ++ ys) n r.1 (Contains-append_right xs ys n m) in omega (arith, up, e))
rise_apart from (x ∷ xs) ys n r (suc k, l, e) m = rise_apart (suc x) xs ys n r.1 (k, omega (arith, l), e) m

pub await_left : (a : Draft) (xs ys : List ℕ) → AwaitNumbers a (xs ++ ys) → AwaitNumbers a xs
await_left a xs ys h = record { rise = rise_left 0 xs ys h.rise; each = λ n k. h.each n (Contains-append_left xs ys n k) }

pub await_right : (a b : Draft) (xs ys : List ℕ) → Fills a b xs → AwaitNumbers a (xs ++ ys) → AwaitNumbers b ys
await_right a b xs ys f h = record {
  rise = rise_right 0 xs ys h.rise;
  each = λ n k. awaits_beside a b n 32 xs f (λ l. rise_apart 0 xs ys n h.rise l k) (h.each n (Contains-append_right xs ys n k));
}

pub await_later : (a b : Draft) (nets others : List ℕ) → Reserves a b others → AwaitNumbers a nets → AwaitNumbers b nets
await_later a b nets others r h = record { rise = h.rise; each = λ n k. stay a b n 32 others (h.each n k) r }

-- memory by memory
pub copied_end : (copies : List ℕ) (nets : List (Option ℕ)) (n : ℕ) (net : Option ℕ) → AreCopied copies nets → HasCopies n net → AreCopied (copies ++ n ∷ []) (nets ++ net ∷ [])
copied_end [] [] n net h k = (k, tt)
copied_end [] (x ∷ nets) n net h k = absurd h
copied_end (c ∷ copies) [] n net h k = absurd h
copied_end (c ∷ copies) (x ∷ nets) n net h k = (h.0, copied_end copies nets n net h.1 k)

pub copied_long : (copies : List ℕ) (nets : List (Option ℕ)) → AreCopied copies nets → length copies ≡ length nets
copied_long [] [] h = refl
copied_long [] (x ∷ nets) h = absurd h
copied_long (c ∷ copies) [] h = absurd h
copied_long (c ∷ copies) (x ∷ nets) h = ap suc (copied_long copies nets h.1)

pub copied_at : (copies : List ℕ) (nets : List (Option ℕ)) (i d : ℕ) (e : Option ℕ) → i < length nets → AreCopied copies nets → HasCopies (slice_index_or copies i d) (slice_index_or nets i e)
copied_at [] [] i d e lt h = absurd (omega (arith, lt))
copied_at [] (x ∷ nets) i d e lt h = absurd h
copied_at (c ∷ copies) [] i d e lt h = absurd h
copied_at (c ∷ copies) (x ∷ nets) zero d e lt h = h.0
copied_at (c ∷ copies) (x ∷ nets) (suc i) d e lt h = copied_at copies nets i d e (omega (arith, lt)) h.1

-- a list, cut at a place
cut : {A : Type 0} (xs : List A) (i : ℕ) (x : A) → i < length xs → x ≡ slice_index_or xs i x → xs ≡ take i xs ++ x ∷ drop (suc i) xs
cut [] i x lt is = absurd (omega (arith, lt))
cut (y ∷ xs) zero x lt is = ap (λ z. z ∷ xs) (sym is)
cut (y ∷ xs) (suc i) x lt is = ap (λ zs. y ∷ zs) (cut xs i x (omega (arith, lt)) is)

pub more : {A : Type 0} (xs : List A) (i : ℕ) (x : A) → i < length xs → x ≡ slice_index_or xs i x → take (i + 1) xs ≡ take i xs ++ x ∷ []
more xs i x lt is = take_more xs i x lt ∙ ap (λ y. take i xs ++ y ∷ []) (sym is)

pub all_end : {A : Type 0} (P : A → Type 0) (xs : List A) (x : A) → All P xs → P x → All P (xs ++ x ∷ [])
all_end P [] x h p zero d lt = p
all_end P [] x h p (suc k) d lt = absurd (omega (arith, lt))
all_end P (y ∷ xs) x h p zero d lt = h 0 d (omega arith)
all_end P (y ∷ xs) x h p (suc k) d lt = all_end P xs x (λ j e l. h (suc j) e (omega (arith, l))) p k d (omega (arith, lt))

-- where those before were driven, those at a place await what drives them
pub await_at : (a b : Draft) (nets : List (Option ℕ)) (i : ℕ) (net : Option ℕ) → i < length nets → net ≡ slice_index_or nets i net → Fills a b (given_nets (take i nets)) → AwaitNumbers a (given_nets nets) → AwaitNumbers b (given_nets (net ∷ []))
await_at a b nets i net lt is f h =
    await_left b (given_nets (net ∷ [])) (given_nets (drop (suc i) nets)) (await_right a b (given_nets (take i nets)) (given_nets (net ∷ []) ++ given_nets (drop (suc i) nets)) f (subst (AwaitNumbers a) all h))
  where
    all : given_nets nets ≡ given_nets (take i nets) ++ (given_nets (net ∷ []) ++ given_nets (drop (suc i) nets))
    all = ap given_nets (cut nets i net lt is) ∙ given_append (take i nets) (net ∷ drop (suc i) nets) ∙ ap (λ ns. given_nets (take i nets) ++ ns) (given_append (net ∷ []) (drop (suc i) nets))

pub await_slot : (a b : Draft) (slots : List SlotNumbers) (i : ℕ) (slot : SlotNumbers) → i < length slots → slot ≡ slice_index_or slots i slot → Fills a b (number_nets (take i slots)) → AwaitNumbers a (number_nets slots)
    → AwaitNumbers b (given_nets slot.nets.items)
await_slot a b slots i slot lt is f h =
    await_left b (given_nets slot.nets.items) (number_nets (drop (suc i) slots)) (await_right a b (number_nets (take i slots)) (given_nets slot.nets.items ++ number_nets (drop (suc i) slots)) f (subst (AwaitNumbers a) all h))
  where
    all : number_nets slots ≡ number_nets (take i slots) ++ (given_nets slot.nets.items ++ number_nets (drop (suc i) slots))
    all = ap number_nets (cut slots i slot lt is) ∙ numbers_append (take i slots) (slot ∷ drop (suc i) slots)

-- and then more are driven
pub given_more : (a b c : Draft) (nets : List (Option ℕ)) (i : ℕ) (net : Option ℕ) → i < length nets → net ≡ slice_index_or nets i net → Fills a b (given_nets (take i nets)) → Fills b c (given_nets (net ∷ [])) → Fills a c (given_nets (take (i + 1) nets))
given_more a b c nets i net lt is f g =
    subst (Fills a c) (sym (ap given_nets (more nets i net lt is) ∙ given_append (take i nets) (net ∷ []))) (Fills-join a b c (given_nets (take i nets)) (given_nets (net ∷ [])) f g)

one_slots : (slots : List SlotNumbers) (slot : SlotNumbers) → number_nets (slots ++ slot ∷ []) ≡ number_nets slots ++ given_nets slot.nets.items
one_slots slots slot = numbers_append slots (slot ∷ []) ∙ ap (λ ns. number_nets slots ++ ns) (append-nil (given_nets slot.nets.items))

pub slots_more : (a b c : Draft) (slots : List SlotNumbers) (i : ℕ) (slot : SlotNumbers) → i < length slots → slot ≡ slice_index_or slots i slot → Fills a b (number_nets (take i slots)) → Fills b c (given_nets slot.nets.items)
    → Fills a c (number_nets (take (i + 1) slots))
slots_more a b c slots i slot lt is f g =
    subst (Fills a c) (sym (ap number_nets (more slots i slot lt is) ∙ one_slots (take i slots) slot)) (Fills-join a b c (number_nets (take i slots)) (given_nets slot.nets.items) f g)

pub slots_promised : (a b c : Draft) (slots : List SlotNumbers) (slot : SlotNumbers) → Promises a b (number_nets slots) → Promises b c (given_nets slot.nets.items) → Promises a c (number_nets (slots ++ slot ∷ []))
slots_promised a b c slots slot p q = subst (Promises a c) (sym (one_slots slots slot)) (promises_join a b c (number_nets slots) (given_nets slot.nets.items) p q)

pub nets_promised : (a b c : Draft) (nets : List (Option ℕ)) (net : Option ℕ) → Promises a b (given_nets nets) → Promises b c (given_nets (net ∷ [])) → Promises a c (given_nets (nets ++ net ∷ []))
nets_promised a b c nets net p q = subst (Promises a c) (sym (given_append nets (net ∷ []))) (promises_join a b c (given_nets nets) (given_nets (net ∷ [])) p q)

-- the nets of a loop still await what drives them, where others are reserved
pub fit_later : (a b : Draft) (copies : List ℕ) (slots : List SlotNumbers) (others : List ℕ) → Reserves a b others → NumbersFit a copies slots → NumbersFit b copies slots
fit_later a b copies slots others r h = record { copied = h.copied; awaited = await_later a b (number_nets slots) others r h.awaited }

-- what stands at a place within a list
pub any_default : (xs : List ℕ) (i d e : ℕ) → i < length xs → slice_index_or xs i d ≡ slice_index_or xs i e
any_default [] i d e lt = absurd (omega (arith, lt))
any_default (x ∷ xs) zero d e lt = refl
any_default (x ∷ xs) (suc i) d e lt = any_default xs i d e (omega (arith, lt))

-- nets that are to be driven stand
given_there : (nets : List (Option ℕ)) (n : ℕ) → Contains nets (Some n) → Contains (given_nets nets) n
given_there [] n k = absurd (let l = k.1 in omega (arith, l))
given_there (None ∷ nets) n (zero, l, e) = absurd (cc)
given_there (None ∷ nets) n (suc k, l, e) = given_there nets n (k, omega (arith, l), e)
given_there (Some m ∷ nets) n (zero, l, e) = (zero, omega arith, cc)
given_there (Some m ∷ nets) n (suc k, l, e) = (let r = given_there nets n (k, omega (arith, l), e) in (suc r.0, (let b = r.1 in omega (arith, b)), r.2))

slot_there : (slots : List SlotNumbers) (x n : ℕ) → Contains (given_nets (slot_numbers slots x)) n → Contains (number_nets slots) n
slot_there [] x n k = k
slot_there (slot ∷ slots) zero n k = Contains-append_left (given_nets slot.nets.items) (number_nets slots) n k
slot_there (slot ∷ slots) (suc x) n k = Contains-append_right (given_nets slot.nets.items) (number_nets slots) n (slot_there slots x n k)

pub fit_stand : (d : Draft) (copies : List ℕ) (slots : List SlotNumbers) (x : ℕ) → NumbersFit d copies slots → StandNumbers d (slot_numbers slots x)
fit_stand d copies slots x h n k = (let w = h.awaited.each n (slot_there slots x n (given_there (slot_numbers slots x) n k)) in record { wide = w.wide; ready = inl w.kept })
