-- The nets that are driven for the memories up to a number are in the end those of all accesses and of all banks.
use Rattle.std.proofs.Common.{◌≡◌, ◌↔◌, ℕ, zero, suc, ◌+◌, ◌<◌, ◌⊎◌, inl, inr, List, [], ◌∷◌, ◌++◌, length, flat_map, slice_index, slice_index_or, All, Contains, sym, ap, subst, ◌∙◌, arith}
use Rattle.std.proofs.lemmas.List.{get_or_default, get_or-map, get_or_append_left, get_or_push}
use Rattle.std.proofs.lemmas.List.Elements.{All-contains, Contains-append_left, Contains-append_right, Contains-append_cases}
use Rattle.sp_words.specs.Types.{width_of}
use Rattle.sp_netlist.specs.Draft.{Draft}
use Rattle.sp_gates.specs.Grows.{Fills}
use Rattle.sp_gates.specs.Nets.{HasNet, IsOpen}
use Rattle.sp_gates.proofs.Growing.{HasNet-stays, Fills-join}
use Rattle.sp_core.specs.Declarations.{mem}
use Rattle.sp_core.specs.PlainCore.{PlainCore}
use Rattle.sp_plan.specs.PlainPlan.{PlainPlan}
use Rattle.sp_taps.specs.declared.store.Store.{Store}
use Rattle.sp_taps.specs.Wires.{wires_of}
use Rattle.sp_access_nets.specs.declared.access.AccessNets.{AccessNets}
use Rattle.sp_access_nets.specs.Laws.{answer_nets}
use Rattle.sp_tree_handed.specs.declared.owners.OwnerNets.{OwnerNets}
use Rattle.sp_tree_handed.specs.Standing.{AccessStands}
use Rattle.sp_memory_nets.specs.ScalarLists.{answers_to, answer_net}
use Rattle.sp_memory_nets.proofs.ScalarAnswering.{AnswersOn, in_answers, answers_in, in_answers_to, answer_in_to, answers_reader, rise_to, one_access}
use Rattle.sp_memory_nets.proofs.ScalarFitting.{owners_stay, owners_copies_stay}
use Rattle.sp_memory_nets.specs.declared.array_array.Array.{Array}
use Rattle.sp_memory_nets.specs.ArrayBanks.{bank_at, stores_at, wires_at, wires_in}
use Rattle.sp_memory_nets.specs.ArrayFits.{MemoryFits, MemoriesFit}
use Rattle.sp_memory_nets.proofs.ArrayFitting.{accesses_fit_stay}
use Rattle.sp_memory_nets.proofs.ArrayWires.{some_wire, wire_open, not_answered, array_stays, at_in, in_at}

none_there : (x : ℕ) → Contains [] x → ⊥
none_there x c = let l = c.1 in omega (arith, l)

abbrev pub driven_up_to : ℕ → List AccessNets → List Array → List ℕ
driven_up_to zero accesses arrays = []
driven_up_to (suc n) accesses arrays = driven_up_to n accesses arrays ++ (wires_at arrays n ++ answers_to n accesses)

-- a net that is driven up to a number answers an access to a memory below it, or is one of such a memory's banks
pub data IsDriven (accesses : List AccessNets) (arrays : List Array) (n x : ℕ) : Type 0 where
  answers : (a : AccessNets) → a.mem < n → AnswersOn accesses x a → IsDriven accesses arrays n x
  wires : (k : ℕ) → k < n → Contains (wires_at arrays k) x → IsDriven accesses arrays n x

below_or_at : (k m : ℕ) → k < suc m → (k < m) ⊎ (k ≡ m)
below_or_at k m l = grind arith

module _ (accesses : List AccessNets) (arrays : List Array) where
  one_higher : (n x : ℕ) → IsDriven accesses arrays n x → IsDriven accesses arrays (suc n) x
  one_higher n x (answers a l h) = answers a (omega (arith, l)) h
  one_higher n x (wires k l c) = wires k (omega (arith, l)) c

  driven_is : (n x : ℕ) → Contains (driven_up_to n accesses arrays) x → IsDriven accesses arrays n x
  driven_is zero x c = absurd (none_there x c)
  driven_is (suc n) x c = elim (Contains-append_cases (driven_up_to n accesses arrays) (wires_at arrays n ++ answers_to n accesses) x c) [
    | inl before ↦ one_higher n x (driven_is n x before)
    | inr own ↦ elim (Contains-append_cases (wires_at arrays n) (answers_to n accesses) x own) [
      | inl wire ↦ wires n (omega arith) wire
      | inr answer ↦ let a = in_answers_to n accesses x answer in answers a.0 (let e = a.1 in omega (arith, e)) a.2
    ]
  ]

  is_driven : (n x : ℕ) → IsDriven accesses arrays n x → Contains (driven_up_to n accesses arrays) x
  is_driven zero x (answers a l h) = absurd (omega (arith, l))
  is_driven zero x (wires k l c) = absurd (omega (arith, l))
  is_driven (suc n) x (answers a l h) = elim (below_or_at a.mem n l) [
    | inl less ↦ Contains-append_left (driven_up_to n accesses arrays) _ x (is_driven n x (answers a less h))
    | inr same ↦
        Contains-append_right (driven_up_to n accesses arrays) _ x
        (Contains-append_right (wires_at arrays n) (answers_to n accesses) x (subst (Contains (answers_to n accesses)) (ap answer_net h.answer ∙ h.on) (answer_in_to n accesses a h.is (answers_reader n a h.word same h.answer))))
  ]
  is_driven (suc n) x (wires k l c) = elim (below_or_at k n l) [
    | inl less ↦ Contains-append_left (driven_up_to n accesses arrays) _ x (is_driven n x (wires k less c))
    | inr same ↦ Contains-append_right (driven_up_to n accesses arrays) _ x (Contains-append_left (wires_at arrays n) (answers_to n accesses) x (subst (λ j. Contains (wires_at arrays j) x) same c))
  ]

  from_driven : (n x : ℕ) → IsDriven accesses arrays n x → Contains (answer_nets accesses ++ wires_in arrays) x
  from_driven n x (answers a l h) = Contains-append_left (answer_nets accesses) (wires_in arrays) x (subst (Contains (answer_nets accesses)) h.on (answers_in accesses a h.word h.is h.answer))
  from_driven n x (wires k l c) = Contains-append_right (answer_nets accesses) (wires_in arrays) x (at_in arrays k x c)

  -- all nets, where each access is to a memory below the number, and so many memories have banks
  pub all_are : (n : ℕ) → length arrays ≡ n → All (λ (a : AccessNets). a.mem < n) accesses → (x : ℕ) → Contains (driven_up_to n accesses arrays) x ↔ Contains (answer_nets accesses ++ wires_in arrays) x
  all_are n each below x = (
    λ c. from_driven n x (driven_is n x c),
    λ c. elim (Contains-append_cases (answer_nets accesses) (wires_in arrays) x c) [
      | inl answer ↦ let a = in_answers accesses x answer in is_driven n x (answers a.0 (All-contains (λ (a : AccessNets). a.mem < n) accesses a.0 below a.1.is) a.1)
      | inr wire ↦ let at = in_at arrays x wire in is_driven n x (wires at.0 (let l = at.1 in omega (arith, l, each)) at.2)
    ],
  )

module _ (a b : Draft) (core : PlainCore) (plan : PlainPlan) (accesses : List AccessNets) (owners : OwnerNets) (arguments : List ℕ) (arrays : List Array) (start m : ℕ) (h : MemoriesFit a core plan accesses owners arguments arrays start)
    (f : Fills a b (driven_up_to m accesses arrays)) (l : m < length core.mems) where
  -- an answer's net is none of a bank
  apart_from : (k x : ℕ) (y : AccessNets) → k < length core.mems → Contains (wires_at arrays k) x → AnswersOn accesses x y → ⊥
  apart_from k x y within c on =
      let stands = All-contains (AccessStands a core) accesses y h.accesses_fit.stand on.is in
      not_answered a x _ (some_wire a _ (stores_at arrays k) x (h.arrays_stand.stand k within).wires c) (subst (λ n. HasNet a n (width_of (mem core y.mem).ty)) on.on (stands.answer on.word on.answer))

  -- a net of this memory isn't driven yet
  no_answer : (x : ℕ) → Contains (answers_to m accesses) x → IsDriven accesses arrays m x → ⊥
  no_answer x own (answers y less on) =
      let z = in_answers_to m accesses x own in
      let same = ap (λ (w : AccessNets). w.mem) (one_access 0 accesses x z.0 y h.rise z.2 on) in
      let e = z.1 in
      omega (arith, same, e, less)
  no_answer x own (wires k less c) = let z = in_answers_to m accesses x own in apart_from k x z.0 (omega (arith, less, l)) c z.2

  no_wire : (x : ℕ) → Contains (wires_at arrays m) x → IsDriven accesses arrays m x → ⊥
  no_wire x own (answers y less on) = apart_from m x y l own on
  no_wire x own (wires k less c) = h.arrays_stand.apart k m x less l c own

  still : (x : ℕ) → Contains (wires_at arrays m) x → IsOpen b x
  still x c = f.still_open x (wire_open a x (some_wire a _ (stores_at arrays m) x (h.arrays_stand.stand m l).wires c)) (λ driven. no_wire x c (driven_is accesses arrays m x driven))

  pub next_fits : (port : ℕ) → port ≡ slice_index_or arguments m port → MemoryFits b core plan accesses owners port (bank_at arrays m) (stores_at arrays m) start m
  next_fits port at = record {
    within = l;
    stored = h.stored m l;
    planned = h.planned;
    starts = HasNet-stays a b start 1 f.grows h.starts;
    ported = λ e. HasNet-stays a b port _ f.grows (subst (λ n. HasNet a n (width_of (mem core m).ty)) (sym (at ∙ get_or_default arguments m port 0 (let e = h.each in omega (arith, e, l)))) (h.ports m l e));
    accesses_fit = accesses_fit_stay a b core accesses f.grows h.accesses_fit;
    owners_stand = owners_stay a b core owners f.grows h.owners_stand;
    owners_copied = owners_copies_stay a b owners f.grows h.owners_copied;
    banks = array_stays a b core plan f.grows m (bank_at arrays m) (stores_at arrays m) still (h.arrays_stand.stand m l);
    awaiting = λ n c.
        let x = in_answers_to m accesses n c in
        f.still_open n (h.awaiting n (subst (Contains (answer_nets accesses)) x.2.on (answers_in accesses x.0 x.2.word x.2.is x.2.answer))) (λ driven. no_answer n c (driven_is accesses arrays m n driven));
    rise = rise_to m 0 accesses h.rise;
  }

-- the banks of a memory, by its entry in the list
stores_are : (arrays : List Array) (m : ℕ) (array : Array) → m < length arrays → array ≡ slice_index_or arrays m array → stores_at arrays m ≡ array.stores.items
stores_are arrays m array l at = get_or-map (λ (a : Array). a.stores.items) arrays m array [] l ∙ ap (λ (a : Array). a.stores.items) (sym at)

bank_is : (arrays : List Array) (m : ℕ) (array : Array) → m < length arrays → array ≡ slice_index_or arrays m array → bank_at arrays m ≡ array.bank
bank_is arrays m array l at = get_or-map (λ (a : Array). a.bank) arrays m array 0 l ∙ ap (λ (a : Array). a.bank) (sym at)

module _ (a b : Draft) (core : PlainCore) (plan : PlainPlan) (accesses : List AccessNets) (owners : OwnerNets) (arguments : List ℕ) (arrays : List Array) (start m : ℕ) (h : MemoriesFit a core plan accesses owners arguments arrays start)
    (f : Fills a b (driven_up_to m accesses arrays)) (l : m < length core.mems) (array : Array) (at : array ≡ slice_index_or arrays m array) where
  within : m < length arrays
  within = (let e = h.arrays_stand.each in omega (arith, e, l))

  pub entry_fits : (port : ℕ) → port ≡ slice_index_or arguments m port → MemoryFits b core plan accesses owners port array.bank array.stores.items start m
  entry_fits port is =
      subst (λ n. MemoryFits b core plan accesses owners port n array.stores.items start m) (bank_is arrays m array within at)
      (subst (λ (ss : List Store). MemoryFits b core plan accesses owners port (bank_at arrays m) ss start m) (stores_are arrays m array within at)
      (next_fits a b core plan accesses owners arguments arrays start m h f l port is))

  pub more_driven : (c : Draft) → Fills b c (flat_map wires_of array.stores.items ++ answers_to m accesses) → Fills a c (driven_up_to (suc m) accesses arrays)
  more_driven c e =
      Fills-join a b c (driven_up_to m accesses arrays) (wires_at arrays m ++ answers_to m accesses) f
      (subst (λ (ss : List Store). Fills b c (flat_map wires_of ss ++ answers_to m accesses)) (sym (stores_are arrays m array within at)) e)

-- what holds of each word of a list holds with one more
pub one_more : (P : ℕ → ℕ → Type 0) (words : List ℕ) (m net : ℕ) → length words ≡ m → ((k : ℕ) → k < m → P k (slice_index words k)) → P m net → (k : ℕ) → k < m + 1 → P k (slice_index (words ++ net ∷ []) k)
one_more P words m net e before own k l = elim (below_or_at k m (omega (arith, l))) [
  | inl less ↦ subst (P k) (sym (get_or_append_left words (net ∷ []) 0 k (omega (arith, less, e)))) (before k less)
  | inr same ↦ subst (λ j. P j (slice_index (words ++ net ∷ []) j)) (sym same) (subst (P m) (sym (get_or_push words net 0 m e)) own)
]
