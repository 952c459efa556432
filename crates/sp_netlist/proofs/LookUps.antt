-- What a cell drives and reads stays the same when cells are added after it.
use Rattle.std.proofs.Common.{◌≡◌, ℕ, ◌<◌, ◌==◌, cond, List, [], ◌∷◌, ◌++◌, count_by, Contains, refl, ap, ◌∙◌, append-nil, subst, eq-eqb, inl, inr, arith, ne_eqb, if◌then◌else◌}
use Rattle.std.proofs.lemmas.List.Elements.{Contains-push_cases}
use Rattle.std.proofs.lemmas.List.Sums.{sum_by-append}
use Rattle.std.proofs.lemmas.List.Concat.{flat_map-append}
use Rattle.sp_words.specs.declared.types.Ty.{Ty}
use Rattle.sp_words.specs.Types.{width_of}
use Rattle.sp_netlist.specs.Cells.{PlainCell, in_cell, out_cell, done_cell, const_cell, op_cell, not_cell, shift_cell, cast_cell, mux_cell, reg_cell, bank_cell, read_tap, write_tap, dram_cell, load_unit, store_unit}
use Rattle.sp_netlist.specs.Rules.{IsRight, is_bank, is_dram, bank_width, dram_width, drives, reads, driven_nets, read_nets}
use Rattle.sp_netlist.specs.Draft.{Declares}
use Rattle.sp_netlist.specs.Tables.{AllRight, NamesStanding as Names}
use Rattle.sp_netlist.proofs.Lists.{Contains-here, Contains-later, split_at, split_push, flat_map_same}

pub Names-right : (cells before : List PlainCell) (cell : PlainCell) → IsRight cells before cell → Names cells cell
Names-right cells before (read_tap net bank enable addr) h = h
Names-right cells before (write_tap bank enable addr word) h = h
Names-right cells before (load_unit channel dram ready net request last addr) h = h.1
Names-right cells before (store_unit channel dram ready request last addr word) h = h.1
Names-right cells before (in_cell name net ty) h = tt
Names-right cells before (out_cell name net ty) h = tt
Names-right cells before (done_cell net) h = tt
Names-right cells before (const_cell net width word) h = tt
Names-right cells before (op_cell net ty op a b) h = tt
Names-right cells before (not_cell net ty a) h = tt
Names-right cells before (shift_cell net ty side a places) h = tt
Names-right cells before (cast_cell net from to a) h = tt
Names-right cells before (mux_cell net width choice a b) h = tt
Names-right cells before (reg_cell net width first next enable) h = tt
Names-right cells before (bank_cell bank width len) h = tt
Names-right cells before (dram_cell dram name ty dims) h = tt

-- a cell that stands rightly in a list stands so when the list grows
pub IsRight-grown : (cells more before : List PlainCell) (cell : PlainCell) → IsRight cells before cell → IsRight (cells ++ more) before cell
IsRight-grown cells more before (read_tap net bank enable addr) h = let e = sum_by-append (λ x. cond (is_bank x) 1 0) cells more in omega (arith, e, h)
IsRight-grown cells more before (write_tap bank enable addr word) h = let e = sum_by-append (λ x. cond (is_bank x) 1 0) cells more in omega (arith, e, h)
IsRight-grown cells more before (load_unit channel dram ready net request last addr) h = (h.0, let e = sum_by-append (λ x. cond (is_dram x) 1 0) cells more in let k = h.1 in omega (arith, e, k))
IsRight-grown cells more before (store_unit channel dram ready request last addr word) h = (h.0, let e = sum_by-append (λ x. cond (is_dram x) 1 0) cells more in let k = h.1 in omega (arith, e, k))
IsRight-grown cells more before (in_cell name net ty) h = h
IsRight-grown cells more before (out_cell name net ty) h = h
IsRight-grown cells more before (done_cell net) h = h
IsRight-grown cells more before (const_cell net width word) h = h
IsRight-grown cells more before (op_cell net ty op a b) h = h
IsRight-grown cells more before (not_cell net ty a) h = h
IsRight-grown cells more before (shift_cell net ty side a places) h = h
IsRight-grown cells more before (cast_cell net from to a) h = h
IsRight-grown cells more before (mux_cell net width choice a b) h = h
IsRight-grown cells more before (reg_cell net width first next enable) h = h
IsRight-grown cells more before (bank_cell bank width len) h = h
IsRight-grown cells more before (dram_cell dram name ty dims) h = h

-- a new bank has the next number, so it is none of those that stand
bank_width-new : (cells : List PlainCell) (c : PlainCell) (n : ℕ) → IsRight cells cells c → n < count_by is_bank cells → bank_width (c ∷ []) n ≡ 0
bank_width-new cells (bank_cell bank width len) n h lt =
    let e = h.0 in
    let other : (bank ≡ n) → ⊥ = λ s. omega (arith, e, lt, s) in
    let test = ne_eqb bank n other in
    rw test
bank_width-new cells (read_tap net bank enable addr) n h lt = refl
bank_width-new cells (write_tap bank enable addr word) n h lt = refl
bank_width-new cells (load_unit channel dram ready net request last addr) n h lt = refl
bank_width-new cells (store_unit channel dram ready request last addr word) n h lt = refl
bank_width-new cells (in_cell name net ty) n h lt = refl
bank_width-new cells (out_cell name net ty) n h lt = refl
bank_width-new cells (done_cell net) n h lt = refl
bank_width-new cells (const_cell net width word) n h lt = refl
bank_width-new cells (op_cell net ty op a b) n h lt = refl
bank_width-new cells (not_cell net ty a) n h lt = refl
bank_width-new cells (shift_cell net ty side a places) n h lt = refl
bank_width-new cells (cast_cell net from to a) n h lt = refl
bank_width-new cells (mux_cell net width choice a b) n h lt = refl
bank_width-new cells (reg_cell net width first next enable) n h lt = refl
bank_width-new cells (dram_cell dram name ty dims) n h lt = refl

dram_width-new : (cells : List PlainCell) (c : PlainCell) (n : ℕ) → IsRight cells cells c → n < count_by is_dram cells → dram_width (c ∷ []) n ≡ 0
dram_width-new cells (dram_cell dram name ty dims) n h lt =
    let e = h.0 in
    let other : (dram ≡ n) → ⊥ = λ s. omega (arith, e, lt, s) in
    let test = ne_eqb dram n other in
    rw test
dram_width-new cells (bank_cell bank width len) n h lt = refl
dram_width-new cells (read_tap net bank enable addr) n h lt = refl
dram_width-new cells (write_tap bank enable addr word) n h lt = refl
dram_width-new cells (load_unit channel dram ready net request last addr) n h lt = refl
dram_width-new cells (store_unit channel dram ready request last addr word) n h lt = refl
dram_width-new cells (in_cell name net ty) n h lt = refl
dram_width-new cells (out_cell name net ty) n h lt = refl
dram_width-new cells (done_cell net) n h lt = refl
dram_width-new cells (const_cell net width word) n h lt = refl
dram_width-new cells (op_cell net ty op a b) n h lt = refl
dram_width-new cells (not_cell net ty a) n h lt = refl
dram_width-new cells (shift_cell net ty side a places) n h lt = refl
dram_width-new cells (cast_cell net from to a) n h lt = refl
dram_width-new cells (mux_cell net width choice a b) n h lt = refl
dram_width-new cells (reg_cell net width first next enable) n h lt = refl

bank_width-push : (cells : List PlainCell) (c : PlainCell) (n : ℕ) → bank_width (c ∷ []) n ≡ 0 → bank_width (cells ++ c ∷ []) n ≡ bank_width cells n
bank_width-push [] c n none = none
bank_width-push (bank_cell bank width len ∷ cells) c n none = ap (λ w. if bank == n then width else w) (bank_width-push cells c n none)
bank_width-push (x ∷ cells) c n none = bank_width-push cells c n none

dram_width-push : (cells : List PlainCell) (c : PlainCell) (n : ℕ) → dram_width (c ∷ []) n ≡ 0 → dram_width (cells ++ c ∷ []) n ≡ dram_width cells n
dram_width-push [] c n none = none
dram_width-push (dram_cell dram name ty dims ∷ cells) c n none = ap (λ w. if dram == n then width_of ty else w) (dram_width-push cells c n none)
dram_width-push (x ∷ cells) c n none = dram_width-push cells c n none

-- the words of a bank or a DRAM that stands keep their width
pub bank_width-kept : (cells : List PlainCell) (c : PlainCell) (n : ℕ) → IsRight cells cells c → n < count_by is_bank cells → bank_width (cells ++ c ∷ []) n ≡ bank_width cells n
bank_width-kept cells c n h lt = bank_width-push cells c n (bank_width-new cells c n h lt)

pub dram_width-kept : (cells : List PlainCell) (c : PlainCell) (n : ℕ) → IsRight cells cells c → n < count_by is_dram cells → dram_width (cells ++ c ∷ []) n ≡ dram_width cells n
dram_width-kept cells c n h lt = dram_width-push cells c n (dram_width-new cells c n h lt)

pub drives-kept : (cells : List PlainCell) (c x : PlainCell) → IsRight cells cells c → Names cells x → drives (cells ++ c ∷ []) x ≡ drives cells x
drives-kept cells c (read_tap net bank enable addr) h n = ap (λ w. (net, w) ∷ []) (bank_width-kept cells c bank h n)
drives-kept cells c (load_unit channel dram ready net request last addr) h n = ap (λ w. (ready, 1) ∷ (net, w) ∷ []) (dram_width-kept cells c dram h n)
drives-kept cells c (bank_cell bank width len) h n = refl
drives-kept cells c (dram_cell dram name ty dims) h n = refl
drives-kept cells c (write_tap bank enable addr word) h n = refl
drives-kept cells c (store_unit channel dram ready request last addr word) h n = refl
drives-kept cells c (in_cell name net ty) h n = refl
drives-kept cells c (out_cell name net ty) h n = refl
drives-kept cells c (done_cell net) h n = refl
drives-kept cells c (const_cell net width word) h n = refl
drives-kept cells c (op_cell net ty op a b) h n = refl
drives-kept cells c (not_cell net ty a) h n = refl
drives-kept cells c (shift_cell net ty side a places) h n = refl
drives-kept cells c (cast_cell net from to a) h n = refl
drives-kept cells c (mux_cell net width choice a b) h n = refl
drives-kept cells c (reg_cell net width first next enable) h n = refl

pub reads-kept : (cells : List PlainCell) (c x : PlainCell) → IsRight cells cells c → Names cells x → reads (cells ++ c ∷ []) x ≡ reads cells x
reads-kept cells c (write_tap bank enable addr word) h n = ap (λ w. (enable, 1) ∷ (addr, 32) ∷ (word, w) ∷ []) (bank_width-kept cells c bank h n)
reads-kept cells c (store_unit channel dram ready request last addr word) h n = ap (λ w. (request, 1) ∷ (last, 1) ∷ (addr, 32) ∷ (word, w) ∷ []) (dram_width-kept cells c dram h n)
reads-kept cells c (read_tap net bank enable addr) h n = refl
reads-kept cells c (load_unit channel dram ready net request last addr) h n = refl
reads-kept cells c (bank_cell bank width len) h n = refl
reads-kept cells c (dram_cell dram name ty dims) h n = refl
reads-kept cells c (in_cell name net ty) h n = refl
reads-kept cells c (out_cell name net ty) h n = refl
reads-kept cells c (done_cell net) h n = refl
reads-kept cells c (const_cell net width word) h n = refl
reads-kept cells c (op_cell net ty op a b) h n = refl
reads-kept cells c (not_cell net ty a) h n = refl
reads-kept cells c (shift_cell net ty side a places) h n = refl
reads-kept cells c (cast_cell net from to a) h n = refl
reads-kept cells c (mux_cell net width choice a b) h n = refl
reads-kept cells c (reg_cell net width first next enable) h n = refl

-- banks and DRAMs of lower numbers don't hide one that comes after them
bank_width-past : (cells more : List PlainCell) (n : ℕ) → ((bank width len : ℕ) → Contains cells (bank_cell bank width len) → bank < n) → bank_width (cells ++ more) n ≡ bank_width more n
bank_width-past [] more n lower = refl
bank_width-past (bank_cell bank width len ∷ cells) more n lower =
    let below = lower bank width len (Contains-here (bank_cell bank width len) cells) in
    let test = ne_eqb bank n (λ e. omega (arith, below, e)) in
    let rest = bank_width-past cells more n (λ b w l h. lower b w l (Contains-later (bank_cell bank width len) cells (bank_cell b w l) h)) in
    rw test rest
bank_width-past (x ∷ cells) more n lower = bank_width-past cells more n (λ b w l h. lower b w l (Contains-later x cells (bank_cell b w l) h))

dram_width-past : (cells more : List PlainCell) (n : ℕ) → ((dram : ℕ) (name : List ℕ) (ty : Ty) (dims : List ℕ) → Contains cells (dram_cell dram name ty dims) → dram < n) → dram_width (cells ++ more) n ≡ dram_width more n
dram_width-past [] more n lower = refl
dram_width-past (dram_cell dram name ty dims ∷ cells) more n lower =
    let below = lower dram name ty dims (Contains-here (dram_cell dram name ty dims) cells) in
    let test = ne_eqb dram n (λ e. omega (arith, below, e)) in
    let rest = dram_width-past cells more n (λ b m t ds h. lower b m t ds (Contains-later (dram_cell dram name ty dims) cells (dram_cell b m t ds) h)) in
    rw test rest
dram_width-past (x ∷ cells) more n lower = dram_width-past cells more n (λ b m t ds h. lower b m t ds (Contains-later x cells (dram_cell b m t ds) h))

Declares-kept : (cells : List PlainCell) (c x : PlainCell) → IsRight cells cells c → Declares cells x → Declares (cells ++ c ∷ []) x
Declares-kept cells c (bank_cell bank width len) h d = (let grown = sum_by-append (λ x. cond (is_bank x) 1 0) cells (c ∷ []) in let within = d.0 in omega (arith, within, grown), bank_width-kept cells c bank h d.0 ∙ d.1)
Declares-kept cells c (dram_cell dram name ty dims) h d = (let grown = sum_by-append (λ x. cond (is_dram x) 1 0) cells (c ∷ []) in let within = d.0 in omega (arith, within, grown), dram_width-kept cells c dram h d.0 ∙ d.1)
Declares-kept cells c (read_tap net bank enable addr) h d = tt
Declares-kept cells c (load_unit channel dram ready net request last addr) h d = tt
Declares-kept cells c (write_tap bank enable addr word) h d = tt
Declares-kept cells c (store_unit channel dram ready request last addr word) h d = tt
Declares-kept cells c (in_cell name net ty) h d = tt
Declares-kept cells c (out_cell name net ty) h d = tt
Declares-kept cells c (done_cell net) h d = tt
Declares-kept cells c (const_cell net width word) h d = tt
Declares-kept cells c (op_cell net ty op a b) h d = tt
Declares-kept cells c (not_cell net ty a) h d = tt
Declares-kept cells c (shift_cell net ty side a places) h d = tt
Declares-kept cells c (cast_cell net from to a) h d = tt
Declares-kept cells c (mux_cell net width choice a b) h d = tt
Declares-kept cells c (reg_cell net width first next enable) h d = tt

pub Declares-new : (cells : List PlainCell) (c : PlainCell) → ((x : PlainCell) → Contains cells x → Declares cells x) → IsRight cells cells c → Declares (cells ++ c ∷ []) c
Declares-new cells (bank_cell bank width len) all h =
    let grown = sum_by-append (λ x. cond (is_bank x) 1 0) cells (bank_cell bank width len ∷ []) in
    let number = h.0 in
    let past = bank_width-past cells (bank_cell bank width len ∷ []) bank (λ b w l within. let below = (all (bank_cell b w l) within).0 in omega (arith, below, number)) in
    let own = eq-eqb bank bank refl in
    (omega (arith, grown, number), past ∙ rw own refl)
Declares-new cells (dram_cell dram name ty dims) all h =
    let grown = sum_by-append (λ x. cond (is_dram x) 1 0) cells (dram_cell dram name ty dims ∷ []) in
    let number = h.0 in
    let past = dram_width-past cells (dram_cell dram name ty dims ∷ []) dram (λ b m t ds within. let below = (all (dram_cell b m t ds) within).0 in omega (arith, below, number)) in
    let own = eq-eqb dram dram refl in
    (omega (arith, grown, number), past ∙ rw own refl)
Declares-new cells (read_tap net bank enable addr) all h = tt
Declares-new cells (load_unit channel dram ready net request last addr) all h = tt
Declares-new cells (write_tap bank enable addr word) all h = tt
Declares-new cells (store_unit channel dram ready request last addr word) all h = tt
Declares-new cells (in_cell name net ty) all h = tt
Declares-new cells (out_cell name net ty) all h = tt
Declares-new cells (done_cell net) all h = tt
Declares-new cells (const_cell net width word) all h = tt
Declares-new cells (op_cell net ty op a b) all h = tt
Declares-new cells (not_cell net ty a) all h = tt
Declares-new cells (shift_cell net ty side a places) all h = tt
Declares-new cells (cast_cell net from to a) all h = tt
Declares-new cells (mux_cell net width choice a b) all h = tt
Declares-new cells (reg_cell net width first next enable) all h = tt

pub Declares-push : (cells : List PlainCell) (c : PlainCell) → ((x : PlainCell) → Contains cells x → Declares cells x) → IsRight cells cells c → (x : PlainCell) → Contains (cells ++ c ∷ []) x → Declares (cells ++ c ∷ []) x
Declares-push cells c all h x within =
    elim (Contains-push_cases cells c x within) [
      | inl old ↦ Declares-kept cells c x h (all x old)
      | inr same ↦ subst (Declares (cells ++ c ∷ [])) same (Declares-new cells c all h)
    ]

pub Names-all : (cells : List PlainCell) → AllRight cells → (x : PlainCell) → Contains cells x → Names cells x
Names-all cells all x h = let s = split_at cells x h in Names-right cells s.0 x (all.each s.0 x s.1 s.2)

pub AllRight-push : (cells : List PlainCell) (c : PlainCell) → AllRight cells → IsRight cells cells c → AllRight (cells ++ c ∷ [])
AllRight-push cells c all h = record {
  each = λ before x after e. elim (split_push cells c before x after e) [
    | inl p ↦ rw (p.0, p.1) (IsRight-grown cells (c ∷ []) cells c h)
    | inr p ↦ IsRight-grown cells (c ∷ []) before x (all.each before x p.0 p.1)
  ];
}

-- the nets that are driven and read once a cell is added
pub driven_nets-push : (cells : List PlainCell) (c : PlainCell) → AllRight cells → IsRight cells cells c → driven_nets (cells ++ c ∷ []) ≡ driven_nets cells ++ drives cells c
driven_nets-push cells c all h =
    let old = flat_map_same (drives (cells ++ c ∷ [])) (drives cells) cells (λ x within. drives-kept cells c x h (Names-all cells all x within)) in
    let new = drives-kept cells c c h (Names-right cells cells c h) in
    let both = flat_map-append (drives (cells ++ c ∷ [])) cells (c ∷ []) in
    both ∙ rw (old, new, append-nil) refl

pub read_nets-push : (cells : List PlainCell) (c : PlainCell) → AllRight cells → IsRight cells cells c → read_nets (cells ++ c ∷ []) ≡ read_nets cells ++ reads cells c
read_nets-push cells c all h =
    let old = flat_map_same (reads (cells ++ c ∷ [])) (reads cells) cells (λ x within. reads-kept cells c x h (Names-all cells all x within)) in
    let new = reads-kept cells c c h (Names-right cells cells c h) in
    let both = flat_map-append (reads (cells ++ c ∷ [])) cells (c ∷ []) in
    both ∙ rw (old, new, append-nil) refl
