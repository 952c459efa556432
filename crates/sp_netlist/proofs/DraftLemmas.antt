-- A draft stays one when a net is promised or a cell is added, and a complete one is a netlist.
use Rattle.std.proofs.Common.{◌≡◌, ℕ, zero, suc, ◌+◌, ◌<◌, ◌≤◌, ◌^◌, ◌==◌, Bool, true, false, not, cond, IsTrue, List, [], ◌∷◌, ◌++◌, length, map, flat_map, count_by, sum_by, All, Contains, Some, slice_get, option_map, ◌⊎◌, inl, inr, refl, sym, ap, ap₂, subst, ◌∙◌, arith, ltb, lt-ltb, eq-eqb, ne_eqb, length-append, true≢false}
use Rattle.std.specs.List.{AllByRecursion as Each}
use Rattle.std.proofs.lemmas.Bool.{cases_Bool, cases_eq}
use Rattle.std.proofs.lemmas.List.Elements.{All-from_recursion, All-contains, All-map, All-append, All-nil, All-push, All-weaker, recursion_from_All, All-contains_itself, Contains-push_cases}
use Rattle.std.proofs.lemmas.List.Sums.{sum_by-append, sum_by-cons, get_or-le-sum_by}
use Rattle.std.proofs.lemmas.List.Concat.{flat_map-append}
use Rattle.sp_netlist.specs.Cells.{PlainCell, in_cell, out_cell, done_cell, const_cell, op_cell, not_cell, shift_cell, cast_cell, mux_cell, reg_cell, bank_cell, read_tap, write_tap, dram_cell, load_unit, store_unit}
use Rattle.sp_netlist.specs.Rules.{IsRight, IsWidth, IsNetlist, IsRanked, Feeds, is_computed, is_bank, is_dram, drives, reads, driven_nets, read_nets}
use Rattle.sp_netlist.specs.Draft.{Draft, IsDraft, CanAdd, IsComplete, IsReady, DrivesApart, Keeps, promised_width, driver_count, net_count}
use Rattle.sp_netlist.proofs.Lists.{split_at, counted, slice_get_grown, Contains-here, Contains-later}
use Rattle.sp_netlist.proofs.LookUps.{Declares-push, AllRight-push, Names-all, drives-kept, reads-kept, driven_nets-push, read_nets-push, Names-right, bank_width-kept, dram_width-kept}
use Rattle.sp_netlist.specs.Tables.{AllRight}

-- what is promised of a net stays when more are promised
found_grown : {X Y : Type 0} (f : X → Y) (xs ys : List X) (i : ℕ) (y : Y) → option_map f (slice_get xs i) ≡ Some y → option_map f (slice_get (xs ++ ys) i) ≡ Some y
found_grown f [] ys i y e = absurd (cc)
found_grown f (x ∷ xs) ys zero y e = e
found_grown f (x ∷ xs) ys (suc i) y e = found_grown f xs ys i y e

found_within : {X Y : Type 0} (f : X → Y) (xs : List X) (i : ℕ) (y : Y) → option_map f (slice_get xs i) ≡ Some y → i < length xs
found_within f [] i y e = absurd (cc)
found_within f (x ∷ xs) zero y e = omega arith
found_within f (x ∷ xs) (suc i) y e = let h = found_within f xs i y e in omega arith

abbrev pub with_promise : Draft → ℕ → Bool → Draft
with_promise d width kept = record { promised = d.promised ++ (width, kept) ∷ []; cells = d.cells }

abbrev pub with_cell : Draft → PlainCell → Draft
with_cell d cell = record { promised = d.promised; cells = d.cells ++ cell ∷ [] }

pub IsDraft-promise : (d : Draft) (width : ℕ) (kept : Bool) → IsDraft d → IsWidth width → IsDraft (with_promise d width kept)
IsDraft-promise d width kept h w = record {
  widths = All-push (λ p. IsWidth p.0) d.promised (width, kept) h.widths w;
  right = h.right;
  declared = h.declared;
  driven_promised = All-weaker _ (λ p. promised_width (with_promise d width kept) p.0 ≡ Some p.1) (λ p e. found_grown (λ n. n.0) d.promised ((width, kept) ∷ []) p.0 p.1 e) (driven_nets d.cells) h.driven_promised;
  driven_once = h.driven_once;
  read_promised = All-weaker _ (λ p. promised_width (with_promise d width kept) p.0 ≡ Some p.1) (λ p e. found_grown (λ n. n.0) d.promised ((width, kept) ∷ []) p.0 p.1 e) (read_nets d.cells) h.read_promised;
  fed_ready = λ a net f. elim (h.fed_ready a net f) [
    | inl k ↦ inl (found_grown (λ n. n.1) d.promised ((width, kept) ∷ []) a true k)
    | inr e ↦ inr e
  ];
  ranked = h.ranked;
}

pub IsDraft-none : IsDraft (record { promised = []; cells = [] })
IsDraft-none = record {
  widths = All-nil (λ p. IsWidth p.0);
  right = λ before cell after e. absurd (let n = ap length e in let m = length-append before (cell ∷ after) in omega (arith, n, m));
  declared = λ cell within. absurd (let k = within.1 in omega (arith, k));
  driven_promised = All-nil _;
  driven_once = λ net. omega arith;
  read_promised = All-nil _;
  fed_ready = λ a net f. absurd (let k = f.1.1 in omega (arith, k));
  ranked = (λ n. 0, λ a net f. absurd (let k = f.1.1 in omega (arith, k)));
}

-- a list of nets has none of that number, or what holds of each holds of it
none_or : (P : ℕ → Type 0) (nets : List (ℕ × ℕ)) (net : ℕ) → Each (λ p. P p.0) nets → (count_by (λ p. p.0 == net) nets ≡ 0) ⊎ P net
none_or P [] net each = inl refl
none_or P (p ∷ nets) net each =
    elim (cases_eq p.0 net) [
      | inl same ↦ inr (subst P same each.0)
      | inr other ↦ elim (none_or P nets net each.1) [
        | inl none ↦ inl (let test = ne_eqb p.0 net other in let step = sum_by-cons (λ q. cond (q.0 == net) 1 0) p nets in step ∙ rw (test, none) refl)
        | inr holds ↦ inr holds
      ]
    ]

at_most_one : (b : Bool) → cond b 1 0 ≤ 1
at_most_one true = omega arith
at_most_one false = omega arith

at_most_one_of : (a b net : ℕ) → (a ≡ b → ⊥) → cond (a == net) 1 0 + cond (b == net) 1 0 ≤ 1
at_most_one_of a b net apart =
    elim (cases_eq a net) [
      | inl same ↦ let other : (b ≡ net) → ⊥ = λ e. apart (same ∙ sym e) in let test = ne_eqb b net other in rw test (let t = at_most_one (a == net) in omega (arith, t))
      | inr other ↦ let test = ne_eqb a net other in rw test (let t = at_most_one (b == net) in omega (arith, t))
    ]

drives_once : (cells : List PlainCell) (c : PlainCell) (net : ℕ) → DrivesApart c → count_by (λ p. p.0 == net) (drives cells c) ≤ 1
drives_once cells (in_cell name n ty) net apart = let t = at_most_one (n == net) in omega (arith, t)
drives_once cells (out_cell name n ty) net apart = omega arith
drives_once cells (done_cell n) net apart = omega arith
drives_once cells (const_cell n width word) net apart = let t = at_most_one (n == net) in omega (arith, t)
drives_once cells (op_cell n ty op a b) net apart = let t = at_most_one (n == net) in omega (arith, t)
drives_once cells (not_cell n ty a) net apart = let t = at_most_one (n == net) in omega (arith, t)
drives_once cells (shift_cell n ty side a places) net apart = let t = at_most_one (n == net) in omega (arith, t)
drives_once cells (cast_cell n from to a) net apart = let t = at_most_one (n == net) in omega (arith, t)
drives_once cells (mux_cell n width choice a b) net apart = let t = at_most_one (n == net) in omega (arith, t)
drives_once cells (reg_cell n width first next enable) net apart = let t = at_most_one (n == net) in omega (arith, t)
drives_once cells (bank_cell bank width len) net apart = omega arith
drives_once cells (read_tap n bank enable addr) net apart = let t = at_most_one (n == net) in omega (arith, t)
drives_once cells (write_tap bank enable addr word) net apart = omega arith
drives_once cells (dram_cell dram name ty dims) net apart = omega arith
drives_once cells (load_unit channel dram ready n request last addr) net apart = let t = at_most_one_of ready n net apart in omega (arith, t)
drives_once cells (store_unit channel dram ready request last addr word) net apart = let t = at_most_one (ready == net) in omega (arith, t)

pub count_by-map : {X Y : Type 0} (p : Y → Bool) (f : X → Y) (xs : List X) → count_by p (map f xs) ≡ count_by (λ x. p (f x)) xs
count_by-map p f [] = refl
count_by-map p f (x ∷ xs) =
    let one = sum_by-cons (λ y. cond (p y) 1 0) (f x) (map f xs) in
    let two = sum_by-cons (λ y. cond (p (f y)) 1 0) x xs in
    let more = count_by-map p f xs in
    one ∙ rw more (sym two)

-- a net in the list is counted, and one that is counted is in the list
pub counted_net : (nets : List (ℕ × ℕ)) (net : ℕ) → Contains (map (λ p. p.0) nets) net → 1 ≤ count_by (λ p. p.0 == net) nets
counted_net nets net h =
    let one = counted (λ n. n == net) (map (λ p. p.0) nets) net h (eq-eqb net net refl) in
    let same = count_by-map (λ n. n == net) (λ (p : ℕ × ℕ). p.0) nets in
    omega (arith, one, same)

pub net_counted : (nets : List (ℕ × ℕ)) (net : ℕ) → 1 ≤ count_by (λ p. p.0 == net) nets → (p : ℕ × ℕ) × Contains nets p × (p.0 ≡ net)
net_counted [] net h = absurd (omega (arith, h))
net_counted (p ∷ nets) net h =
    elim (cases_eq p.0 net) [
      | inl same ↦ (p, Contains-here p nets, same)
      | inr other ↦
          let test = ne_eqb p.0 net other in
          let step = sum_by-cons (λ (q : ℕ × ℕ). cond (q.0 == net) 1 0) p nets in
          let zero_here : ◌≡◌ {A = ℕ} (cond (p.0 == net) 1 0) 0 = rw test in
          let rest = net_counted nets net (omega (arith, h, step, zero_here)) in
          (rest.0, Contains-later p nets rest.0 rest.1, rest.2)
    ]

-- what a cell of the list drives is among what the list drives
driver_counted : (cells : List PlainCell) (x : PlainCell) (net : ℕ) → Contains cells x → Contains (map (λ p. p.0) (drives cells x)) net → 1 ≤ driver_count cells net
driver_counted cells x net within driven =
    let s = split_at cells x within in
    let one = counted_net (drives cells x) net driven in
    let parts : driven_nets cells ≡ flat_map (drives cells) s.0 ++ (drives cells x ++ flat_map (drives cells) s.1) = ap (flat_map (drives cells)) s.2 ∙ flat_map-append (drives cells) s.0 (x ∷ s.1) in
    let whole = ap (count_by (λ (p : ℕ × ℕ). p.0 == net)) parts in
    let first = sum_by-append (λ (p : ℕ × ℕ). cond (p.0 == net) 1 0) (flat_map (drives cells) s.0) (drives cells x ++ flat_map (drives cells) s.1) in
    let second = sum_by-append (λ (p : ℕ × ℕ). cond (p.0 == net) 1 0) (drives cells x) (flat_map (drives cells) s.1) in
    omega (arith, one, whole, first, second)

-- a cell by itself computes the second net from the first, among others
abbrev FeedsBy : List PlainCell → PlainCell → ℕ → ℕ → Type 0
FeedsBy cells c a net = IsTrue (is_computed c) × Contains (map (λ p. p.0) (reads cells c)) a × Contains (map (λ p. p.0) (drives cells c)) net

Feeds-push : (cells : List PlainCell) (c : PlainCell) (a net : ℕ) → AllRight cells → IsRight cells cells c → Feeds (cells ++ c ∷ []) a net → Feeds cells a net ⊎ FeedsBy cells c a net
Feeds-push cells c a net all h (x, within, computed, read, driven) =
    elim (Contains-push_cases cells c x within) [
      | inl old ↦
          let named = Names-all cells all x old in
          let r = reads-kept cells c x h named in
          let d = drives-kept cells c x h named in
          inl (x, old, computed, subst (λ ps. Contains (map (λ (p : ℕ × ℕ). p.0) ps) a) r read, subst (λ ps. Contains (map (λ (p : ℕ × ℕ). p.0) ps) net) d driven)
      | inr same ↦
          let named = Names-right cells cells c h in
          let r : reads (cells ++ c ∷ []) x ≡ reads cells c = ap (reads (cells ++ c ∷ [])) (sym same) ∙ reads-kept cells c c h named in
          let d : drives (cells ++ c ∷ []) x ≡ drives cells c = ap (drives (cells ++ c ∷ [])) (sym same) ∙ drives-kept cells c c h named in
          inr (subst (λ y. IsTrue (is_computed y)) (sym same) computed, subst (λ ps. Contains (map (λ (p : ℕ × ℕ). p.0) ps) a) r read, subst (λ ps. Contains (map (λ (p : ℕ × ℕ). p.0) ps) net) d driven)
    ]

driver_count-push : (cells : List PlainCell) (c : PlainCell) (net : ℕ) → AllRight cells → IsRight cells cells c → driver_count (cells ++ c ∷ []) net ≡ driver_count cells net + count_by (λ p. p.0 == net) (drives cells c)
driver_count-push cells c net all h =
    ap (count_by (λ (p : ℕ × ℕ). p.0 == net)) (driven_nets-push cells c all h) ∙ sum_by-append (λ (p : ℕ × ℕ). cond (p.0 == net) 1 0) (driven_nets cells) (drives cells c)

each_weaker : {X : Type 0} (P Q : X → Type 0) → ((x : X) → P x → Q x) → (xs : List X) → Each P xs → Each Q xs
each_weaker P Q weaker [] each = tt
each_weaker P Q weaker (x ∷ xs) each = (weaker x each.0, each_weaker P Q weaker xs each.1)

-- a computed cell doesn't drive what stands before it
not_driven : (d : Draft) (c : PlainCell) (a : ℕ) → CanAdd d c → IsTrue (is_computed c) → IsReady d a → count_by (λ p. p.0 == a) (drives d.cells c) ≡ 0
not_driven d c a can computed ready =
    elim (none_or (λ n. driver_count d.cells n ≡ 0) (drives d.cells c) a can.drives_new) [
      | inl none ↦ none
      | inr zero_drivers ↦ elim ready [
        | inr one ↦ absurd (omega (arith, one, zero_drivers))
        | inl kept ↦ elim (none_or (λ n. option_map (λ p. p.1) (slice_get d.promised n) ≡ Some (not (is_computed c))) (drives d.cells c) a (each_weaker _ _ (λ p e. ap (option_map (λ n. n.1)) e) (drives d.cells c) can.drives_promised)) [
          | inl none ↦ none
          | inr plain ↦ absurd (let e = computed in cc)
        ]
      ]
    ]

-- the nets that a computed cell reads stand before it
operand_ready : (d : Draft) (c : PlainCell) (a : ℕ) → CanAdd d c → IsTrue (is_computed c) → Contains (map (λ p. p.0) (reads d.cells c)) a → IsReady d a
operand_ready d c a can computed read =
    All-contains (IsReady d) (map (λ p. p.0) (reads d.cells c)) a (All-map (IsReady d) (λ (p : ℕ × ℕ). p.0) (reads d.cells c) (All-from_recursion (λ p. IsReady d p.0) (reads d.cells c) (can.operands_ready computed))) read

IsReady-push : (d : Draft) (c : PlainCell) (a : ℕ) → AllRight d.cells → CanAdd d c → IsReady d a → driver_count (d.cells ++ c ∷ []) a ≤ 1 → IsReady (with_cell d c) a
IsReady-push d c a all can (inl kept) once = inl kept
IsReady-push d c a all can (inr driven) once = inr (let e = driver_count-push d.cells c a all can.right in omega (arith, e, driven, once))

-- the nets can still be ranked: a computed net stands above all that it is computed from
rank_with : (ℕ → ℕ) → List (ℕ × ℕ) → List (ℕ × ℕ) → ℕ → ℕ
rank_with rank read driven net = cond (ltb 0 (count_by (λ p. p.0 == net) driven)) (suc (sum_by rank (map (λ p. p.0) read))) (rank net)

rank_with-same : (rank : ℕ → ℕ) (read driven : List (ℕ × ℕ)) (net : ℕ) → count_by (λ p. p.0 == net) driven ≡ 0 → rank_with rank read driven net ≡ rank net
unfolding rank_with
rank_with-same rank read driven net none = rw none

rank_with-new : (rank : ℕ → ℕ) (read driven : List (ℕ × ℕ)) (net : ℕ) → 1 ≤ count_by (λ p. p.0 == net) driven → rank_with rank read driven net ≡ suc (sum_by rank (map (λ p. p.0) read))
unfolding rank_with
rank_with-new rank read driven net some = let test = lt-ltb 0 (count_by (λ (p : ℕ × ℕ). p.0 == net) driven) some in rw test

rank_read : (rank : ℕ → ℕ) (read : List (ℕ × ℕ)) (a : ℕ) → Contains (map (λ p. p.0) read) a → rank a ≤ sum_by rank (map (λ p. p.0) read)
rank_read rank read a (k, h, e) = let le = get_or-le-sum_by rank (map (λ (p : ℕ × ℕ). p.0) read) k a h in let same = ap rank e in omega (arith, le, same)

above_old : (d : Draft) (c : PlainCell) (rank : ℕ → ℕ) → IsDraft d → CanAdd d c → IsTrue (is_computed c) → (a net : ℕ) → Feeds d.cells a net → rank a < rank net
    → rank_with rank (reads d.cells c) (drives d.cells c) a < rank_with rank (reads d.cells c) (drives d.cells c) net
above_old d c rank h can computed a net feeds below =
    let ready = h.fed_ready a net feeds in
    let same_a = rank_with-same rank (reads d.cells c) (drives d.cells c) a (not_driven d c a can computed ready) in
    let driven : 1 ≤ driver_count d.cells net = driver_counted d.cells feeds.0 net feeds.1 feeds.4 in
    let none : count_by (λ p. p.0 == net) (drives d.cells c) ≡ 0 = elim (none_or (λ n. driver_count d.cells n ≡ 0) (drives d.cells c) net can.drives_new) [ inl e ↦ e | inr e ↦ absurd (omega (arith, driven, e)) ] in
    let same_net = rank_with-same rank (reads d.cells c) (drives d.cells c) net none in
    omega (arith, same_a, same_net, below)

above_new : (d : Draft) (c : PlainCell) (rank : ℕ → ℕ) → CanAdd d c → (a net : ℕ) → FeedsBy d.cells c a net
    → rank_with rank (reads d.cells c) (drives d.cells c) a < rank_with rank (reads d.cells c) (drives d.cells c) net
above_new d c rank can a net feeds =
    let ready = operand_ready d c a can feeds.0 feeds.1 in
    let same_a = rank_with-same rank (reads d.cells c) (drives d.cells c) a (not_driven d c a can feeds.0 ready) in
    let new_net = rank_with-new rank (reads d.cells c) (drives d.cells c) net (counted_net (drives d.cells c) net feeds.2) in
    let below = rank_read rank (reads d.cells c) a feeds.1 in
    omega (arith, same_a, new_net, below)

IsRanked-push : (d : Draft) (c : PlainCell) → IsDraft d → AllRight d.cells → CanAdd d c → IsRanked (d.cells ++ c ∷ [])
IsRanked-push d c h all can =
    let rank = h.ranked.0 in
    let below = h.ranked.1 in
    elim (cases_Bool (is_computed c)) [
      | inl computed ↦ (
        rank_with rank (reads d.cells c) (drives d.cells c),
        λ a net feeds. elim (Feeds-push d.cells c a net all can.right feeds) [
          | inl old ↦ above_old d c rank h can computed a net old (below a net old)
          | inr new ↦ above_new d c rank can a net new
        ],
      )
      | inr kept ↦ (
        rank,
        λ a net feeds. elim (Feeds-push d.cells c a net all can.right feeds) [
          | inl old ↦ below a net old
          | inr new ↦ absurd (true≢false (sym new.0 ∙ kept))
        ],
      )
    ]

driven_once-push : (d : Draft) (c : PlainCell) → IsDraft d → AllRight d.cells → CanAdd d c → (net : ℕ) → driver_count (d.cells ++ c ∷ []) net ≤ 1
driven_once-push d c h all can net =
    let e = driver_count-push d.cells c net all can.right in
    let old = h.driven_once net in
    let new = drives_once d.cells c net can.drives_apart in
    elim (none_or (λ n. driver_count d.cells n ≡ 0) (drives d.cells c) net can.drives_new) [
      | inl none ↦ omega (arith, e, old, none)
      | inr none ↦ omega (arith, e, new, none)
    ]

drives_at_width : (d : Draft) (c : PlainCell) → CanAdd d c → All (λ p. promised_width d p.0 ≡ Some p.1) (drives d.cells c)
drives_at_width d c can =
    let exact : ℕ × ℕ → Type 0 = λ p. slice_get d.promised p.0 ≡ Some (p.1, not (is_computed c)) in
    All-weaker exact (λ p. promised_width d p.0 ≡ Some p.1) (λ p e. ap (option_map (λ (n : ℕ × Bool). n.0)) e) (drives d.cells c) (All-from_recursion exact (drives d.cells c) can.drives_promised)

pub IsDraft-add : (d : Draft) (c : PlainCell) → IsDraft d → CanAdd d c → IsDraft (with_cell d c)
IsDraft-add d c h can =
    let all : AllRight d.cells = record { each = h.right } in
    record {
      widths = h.widths;
      right = (AllRight-push d.cells c all can.right).each;
      declared = Declares-push d.cells c h.declared can.right;
      driven_promised = rw (driven_nets-push d.cells c all can.right) (All-append (λ p. promised_width d p.0 ≡ Some p.1) (driven_nets d.cells) (drives d.cells c) h.driven_promised
          (drives_at_width d c can));
      driven_once = driven_once-push d c h all can;
      read_promised = rw (read_nets-push d.cells c all can.right) (All-append (λ p. promised_width d p.0 ≡ Some p.1) (read_nets d.cells) (reads d.cells c) h.read_promised
          (All-from_recursion (λ p. promised_width d p.0 ≡ Some p.1) (reads d.cells c) can.reads_promised));
      fed_ready = λ a net feeds. IsReady-push d c a all can (elim (Feeds-push d.cells c a net all can.right feeds) [
        | inl old ↦ h.fed_ready a net old
        | inr new ↦ operand_ready d c a can new.0 new.1
      ]) (driven_once-push d c h all can a);
      ranked = IsRanked-push d c h all can;
    }

-- a net that is read is driven at the width at which it is read
read_is_driven : (d : Draft) → IsDraft d → IsComplete d → (p : ℕ × ℕ) → promised_width d p.0 ≡ Some p.1 → Contains (driven_nets d.cells) p
read_is_driven d h complete p e =
    let driven = complete.all_driven p.0 (found_within (λ n. n.0) d.promised p.0 p.1 e) in
    let found = net_counted (driven_nets d.cells) p.0 (omega (arith, driven)) in
    let width = All-contains (λ q. promised_width d q.0 ≡ Some q.1) (driven_nets d.cells) found.0 h.driven_promised found.1 in
    let moved = subst (λ n. promised_width d n ≡ Some found.0.1) found.2 width in
    let same : found.0.1 ≡ p.1 = cc in
    subst (Contains (driven_nets d.cells)) (ap₂ (λ (a b : ℕ). (a, b)) found.2 same) found.1

pub IsNetlist-complete : (d : Draft) → IsDraft d → IsComplete d → length d.promised ≤ 2 ^ 64 → IsNetlist d.cells
IsNetlist-complete d h complete short = record {
  right = h.right;
  one_done = complete.one_done;
  numbers = All-weaker (λ p. promised_width d p.0 ≡ Some p.1) (λ p. p.0 < 2 ^ 64) (λ p e. let within = found_within (λ n. n.0) d.promised p.0 p.1 e in omega (arith, within, short)) (driven_nets d.cells) h.driven_promised;
  driven_once = h.driven_once;
  read_driven = All-weaker (λ p. promised_width d p.0 ≡ Some p.1) (Contains (driven_nets d.cells)) (read_is_driven d h complete) (read_nets d.cells) h.read_promised;
  ranked = h.ranked;
}

-- a net that wasn't promised isn't driven
pub driver_count-beyond : (d : Draft) (net : ℕ) → IsDraft d → length d.promised ≤ net → driver_count d.cells net ≡ 0
driver_count-beyond d net h beyond =
    elim (none_or (λ n. n < length d.promised) (driven_nets d.cells) net
    (recursion_from_All (λ p. p.0 < length d.promised) (driven_nets d.cells)
    (All-weaker (λ p. promised_width d p.0 ≡ Some p.1) (λ p. p.0 < length d.promised) (λ p e. found_within (λ n. n.0) d.promised p.0 p.1 e) (driven_nets d.cells) h.driven_promised))) [
      | inl none ↦ none
      | inr within ↦ absurd (omega (arith, beyond, within))
    ]

pub Keeps-refl : (d : Draft) → Keeps d d
Keeps-refl d = record {
  promised = λ net width kept e. e;
  widths = λ net width e. e;
  kept = λ net k. k;
  driven = λ net e. e;
  ready = λ net h. h;
  banks = λ bank within. (within, refl);
  drams = λ dram within. (within, refl);
}

pub Keeps-trans : (a b c : Draft) → Keeps a b → Keeps b c → Keeps a c
Keeps-trans a b c k l = record {
  promised = λ net width kept e. l.promised net width kept (k.promised net width kept e);
  widths = λ net width e. l.widths net width (k.widths net width e);
  kept = λ net h. l.kept net (k.kept net h);
  driven = λ net e. l.driven net (k.driven net e);
  ready = λ net h. l.ready net (k.ready net h);
  banks = λ bank within. let first = k.banks bank within in let second = l.banks bank first.0 in (second.0, second.1 ∙ first.1);
  drams = λ dram within. let first = k.drams dram within in let second = l.drams dram first.0 in (second.0, second.1 ∙ first.1);
}

pub Keeps-promise : (d : Draft) (width : ℕ) (kept : Bool) → Keeps d (with_promise d width kept)
Keeps-promise d width kept = record {
  promised = λ net w k e. slice_get_grown d.promised ((width, kept) ∷ []) net (w, k) e;
  widths = λ net w e. found_grown (λ n. n.0) d.promised ((width, kept) ∷ []) net w e;
  kept = λ net k. found_grown (λ n. n.1) d.promised ((width, kept) ∷ []) net true k;
  driven = λ net e. e;
  ready = λ net h. elim h [ inl k ↦ inl (found_grown (λ n. n.1) d.promised ((width, kept) ∷ []) net true k) | inr e ↦ inr e ];
  banks = λ bank within. (within, refl);
  drams = λ dram within. (within, refl);
}

pub Keeps-add : (d : Draft) (c : PlainCell) → IsDraft d → CanAdd d c → Keeps d (with_cell d c)
Keeps-add d c h can =
    let all : AllRight d.cells = record { each = h.right } in
    record {
      promised = λ net width kept e. e;
      widths = λ net width e. e;
      kept = λ net k. k;
      driven = λ net e. (let grown = driver_count-push d.cells c net all can.right in let once = driven_once-push d c h all can net in omega (arith, e, grown, once));
      ready = λ net ready. IsReady-push d c net all can ready (driven_once-push d c h all can net);
      banks = λ bank within. (let grown = sum_by-append (λ x. cond (is_bank x) 1 0) d.cells (c ∷ []) in omega (arith, within, grown), bank_width-kept d.cells c bank can.right within);
      drams = λ dram within. (let grown = sum_by-append (λ x. cond (is_dram x) 1 0) d.cells (c ∷ []) in omega (arith, within, grown), dram_width-kept d.cells c dram can.right within);
    }

pub driver_count-add : (d : Draft) (c : PlainCell) (net : ℕ) → IsDraft d → CanAdd d c → driver_count (d.cells ++ c ∷ []) net ≡ driver_count d.cells net + net_count (drives d.cells c) net
driver_count-add d c net h can = driver_count-push d.cells c net (record { each = h.right }) can.right

-- what a cell drives is driven once it is added
pub driven-add : (d : Draft) (c : PlainCell) → IsDraft d → CanAdd d c → Each (λ p. driver_count (d.cells ++ c ∷ []) p.0 ≡ 1) (drives d.cells c)
driven-add d c h can =
    recursion_from_All (λ p. driver_count (d.cells ++ c ∷ []) p.0 ≡ 1) (drives d.cells c)
    (All-weaker (Contains (drives d.cells c)) (λ p. driver_count (d.cells ++ c ∷ []) p.0 ≡ 1)
    (λ p within.
    let some = counted (λ (q : ℕ × ℕ). q.0 == p.0) (drives d.cells c) p within (eq-eqb p.0 p.0 refl) in
    let grown = driver_count-add d c p.0 h can in
    let once = driven_once-push d c h (record { each = h.right }) can p.0 in
    omega (arith, some, grown, once))
    (drives d.cells c) (All-contains_itself (drives d.cells c)))

-- a net that isn't driven and that the cell doesn't drive isn't driven once it is added
pub not_driven-add : (d : Draft) (c : PlainCell) (net : ℕ) → IsDraft d → CanAdd d c → driver_count d.cells net ≡ 0 → Each (λ p. p.0 ≡ net → ⊥) (drives d.cells c) → driver_count (d.cells ++ c ∷ []) net ≡ 0
not_driven-add d c net h can none others =
    let grown = driver_count-add d c net h can in
    elim (none_or (λ n. n ≡ net → ⊥) (drives d.cells c) net others) [
      | inl e ↦ omega (arith, grown, none, e)
      | inr other ↦ absurd (other refl)
    ]
