-- The numbers of the memories of a kind, and the nets of arguments.
use Rattle.std.proofs.Common.{◌≡◌, ℕ, zero, suc, ◌+◌, ◌<◌, Bool, true, false, cond, List, [], ◌∷◌, ◌++◌, length, slice_index, slice_index_or, refl, ap, ◌∙◌, arith}
use Rattle.std.specs.List.{filter}
use Rattle.std.proofs.lemmas.Bool.{false≢true}
use Rattle.sp_words.specs.declared.kind.Kind.{Kind}
use Rattle.sp_core.specs.Meaning.{is_arg, numbers_of}
use Rattle.sp_core.specs.PlainCore.{PlainMem, no_mem}
use Rattle.sp_port_nets.specs.Nets.{first_net, other_nets, nets_of_arguments}

-- among memories of which the first one has this number, this one has that number, and passes the test
pub record HasNumber (is : Kind → Bool) (mems : List PlainMem) (first n : ℕ) (m : PlainMem) : Type 0 where
  pub place : ℕ
  pub number : n ≡ first + place
  pub within : place < length mems
  pub same : m ≡ slice_index_or mems place no_mem
  pub passes : is m.kind ≡ true

module _ (is : Kind → Bool) where
  later : (x : PlainMem) (mems : List PlainMem) (first n : ℕ) (m : PlainMem) → HasNumber is mems (suc first) n m → HasNumber is (x ∷ mems) first n m
  later x mems first n m h = record {
    place = suc h.place;
    number = (let e = h.number in omega (arith, e));
    within = (let l = h.within in omega (arith, l));
    same = h.same;
    passes = h.passes;
  }

  -- as many numbers as memories
  pub as_many_numbers : (mems : List PlainMem) (first : ℕ) → length (numbers_of is first mems) ≡ length (filter (λ (m : PlainMem). is m.kind) mems)
  as_many_numbers [] first = refl
  as_many_numbers (x ∷ mems) first = go (is x.kind) (as_many_numbers mems (suc first))
    where
      go : (b : Bool) → length (numbers_of is (suc first) mems) ≡ length (filter (λ (m : PlainMem). is m.kind) mems)
          → length (cond b (first ∷ []) [] ++ numbers_of is (suc first) mems) ≡ length (cond b (x ∷ filter (λ (m : PlainMem). is m.kind) mems) (filter (λ (m : PlainMem). is m.kind) mems))
      go true e = ap suc e
      go false e = e

  -- the number at a place is that of the memory there
  pub number_at : (mems : List PlainMem) (first k : ℕ) → k < length (numbers_of is first mems)
      → HasNumber is mems first (slice_index (numbers_of is first mems) k) (slice_index_or (filter (λ (m : PlainMem). is m.kind) mems) k no_mem)
  number_at [] first k l = absurd (omega (arith, l))
  number_at (x ∷ mems) first k l = go (is x.kind) refl k l (λ j. number_at mems (suc first) j)
    where
      go : (b : Bool) → is x.kind ≡ b → (j : ℕ) → j < length (cond b (first ∷ []) [] ++ numbers_of is (suc first) mems)
          → ((i : ℕ) → i < length (numbers_of is (suc first) mems) → HasNumber is mems (suc first) (slice_index (numbers_of is (suc first) mems) i) (slice_index_or (filter (λ (m : PlainMem). is m.kind) mems) i no_mem))
          → HasNumber is (x ∷ mems) first (slice_index (cond b (first ∷ []) [] ++ numbers_of is (suc first) mems) j) (slice_index_or (cond b (x ∷ filter (λ (m : PlainMem). is m.kind) mems) (filter (λ (m : PlainMem). is m.kind) mems)) j no_mem)
      go true e zero l h = record { place = 0; number = omega arith; within = omega arith; same = refl; passes = e }
      go true e (suc j) l h = later x mems first _ _ (h j (omega (arith, l)))
      go false e j l h = later x mems first _ _ (h j l)

-- where an argument stands among the arguments, and that its net is the port at that place
pub record HasPlace (mems : List PlainMem) (first m : ℕ) : Type 0 where
  pub place : ℕ
  pub within : place < length (numbers_of is_arg first mems)
  pub number : slice_index (numbers_of is_arg first mems) place ≡ first + m
  pub net : (ports : List ℕ) → slice_index (nets_of_arguments mems ports) m ≡ slice_index ports place

first_is : (ports : List ℕ) → first_net ports ≡ slice_index ports 0
first_is [] = refl
first_is (n ∷ ports) = refl

other_is : (ports : List ℕ) (k : ℕ) → slice_index (other_nets ports) k ≡ slice_index ports (suc k)
other_is [] k = refl
other_is (n ∷ ports) k = refl

abbrev numbers_with : Bool → (first : ℕ) → List PlainMem → List ℕ
numbers_with b first mems = cond b (first ∷ []) [] ++ numbers_of is_arg (suc first) mems

abbrev nets_with : Bool → List PlainMem → (ports : List ℕ) → List ℕ
nets_with b mems ports = elim b as (λ _. List ℕ) [ true ↦ first_net ports ∷ nets_of_arguments mems (other_nets ports) | false ↦ 0 ∷ nets_of_arguments mems ports ]

-- the place of a memory, where the first of all is an argument or isn't
record HasPlaceWith (b : Bool) (mems : List PlainMem) (first m : ℕ) : Type 0 where
  place : ℕ
  within : place < length (numbers_with b first mems)
  number : slice_index (numbers_with b first mems) place ≡ first + m
  net : (ports : List ℕ) → slice_index (nets_with b mems ports) m ≡ slice_index ports place

first_place : (b : Bool) (mems : List PlainMem) (first : ℕ) → b ≡ true → HasPlaceWith b mems first 0
first_place true mems first e = record { place = 0; within = omega arith; number = omega arith; net = first_is }
first_place false mems first e = absurd (false≢true e)

later_place : (b : Bool) (mems : List PlainMem) (first m : ℕ) → HasPlace mems (suc first) m → HasPlaceWith b mems first (suc m)
later_place true mems first m h = record {
  place = suc h.place;
  within = (let l = h.within in omega (arith, l));
  number = (let e = h.number in omega (arith, e));
  net = λ ports. h.net (other_nets ports) ∙ other_is ports h.place;
}
later_place false mems first m h = record {
  place = h.place;
  within = h.within;
  number = (let e = h.number in omega (arith, e));
  net = λ ports. h.net ports;
}

place_with : (x : PlainMem) (mems : List PlainMem) (first m : ℕ) → HasPlaceWith (is_arg x.kind) mems first m → HasPlace (x ∷ mems) first m
place_with x mems first m h = record { place = h.place; within = h.within; number = h.number; net = h.net }

pub place_of : (mems : List PlainMem) (first m : ℕ) → m < length mems → is_arg (slice_index_or mems m no_mem).kind ≡ true → HasPlace mems first m
place_of [] first m l e = absurd (omega (arith, l))
place_of (x ∷ mems) first zero l e = place_with x mems first 0 (first_place (is_arg x.kind) mems first e)
place_of (x ∷ mems) first (suc m) l e = place_with x mems first (suc m) (later_place (is_arg x.kind) mems first m (place_of mems (suc first) m (omega (arith, l)) e))

pub nets_each : (mems : List PlainMem) (ports : List ℕ) → length (nets_of_arguments mems ports) ≡ length mems
nets_each [] ports = refl
nets_each (x ∷ mems) ports = go (is_arg x.kind) (nets_each mems (other_nets ports)) (nets_each mems ports)
  where
    go : (b : Bool) → length (nets_of_arguments mems (other_nets ports)) ≡ length mems → length (nets_of_arguments mems ports) ≡ length mems
        → length (elim b as (λ _. List ℕ) [ true ↦ first_net ports ∷ nets_of_arguments mems (other_nets ports) | false ↦ 0 ∷ nets_of_arguments mems ports ]) ≡ suc (length mems)
    go true e f = ap suc e
    go false e f = ap suc f
