-- Cells of ports that are added one after the other.
use Rattle.std.proofs.Common.{◌≡◌, ◌≢◌, ℕ, suc, None, ◌+◌, ◌<◌, ◌≤◌, Bool, false, cond, inl, inr, List, [], ◌∷◌, ◌++◌, length, map, take, drop, get_or, filter_map, count_by, Contains, refl, sym, ap, subst, ◌∙◌, arith, append_assoc, append-nil, length-append, length-drop, take_all, min}
use Rattle.std.specs.List.{list_any}
use Rattle.std.proofs.lemmas.Bool.{cases_eq, or_parts}
use Rattle.std.proofs.lemmas.List.{map-append, length-map, take_more, drop_more, nil_from_length}
use Rattle.std.proofs.lemmas.List.Elements.{filter_map-append}
use Rattle.std.proofs.lemmas.List.Sums.{sum_by-append}
use Rattle.sp_words.specs.declared.interface.PortDecl.{PortDecl}
use Rattle.sp_words.specs.Ports.{PlainPort, plain_port}
use Rattle.sp_words.specs.Types.{width_of}
use Rattle.sp_netlist.specs.Cells.{PlainCell, in_cell, out_cell, done_cell, dram_cell}
use Rattle.sp_netlist.specs.Draft.{Draft, CanAdd, IsComplete, IsDraft, Keeps, driver_count}
use Rattle.sp_netlist.specs.Parts.{NoCell, names_bank}
use Rattle.sp_netlist.specs.Rules.{is_done, is_dram, in_name, out_name, dram_name}
use Rattle.sp_gates.specs.Grows.{Builds}
use Rattle.sp_gates.specs.Nets.{HasNet, IsOpen}
use Rattle.sp_gates.proofs.Growing.{Keeps-same, Fills-none, fills_build, Builds-join, HasNet-stays, complete, gate_grows}
use Rattle.sp_frames.specs.Framed.{in_cells, dram_cells, out_cells}
use Rattle.sp_frames.specs.Ports.{AreNamedAfter, AreNamed, HaveSizes, HaveNets}
use Rattle.sp_frames.proofs.Framing.{none_counted}
use Rattle.sp_frames.proofs.Naming.{nets_stay, net_for_each}

none_in : (x : ℕ) → Contains [] x → ⊥
none_in x c = let l = c.1 in absurd (omega (arith, l))

-- a net was promised and is driven by the cell that was added, and nothing else changed
pub driven_builds : (old mid new : Draft) (x : PlainCell) (r : ℕ) → is_done x ≡ false → ((bank : ℕ) → names_bank bank x ≡ false) → mid.cells ≡ old.cells → new.cells ≡ mid.cells ++ x ∷ [] → Keeps old mid → Keeps mid new → IsDraft new
    → r ≡ length old.promised → length mid.promised ≡ length old.promised + 1 → new.promised ≡ mid.promised → driver_count new.cells r ≡ 1
    → ((n : ℕ) → driver_count mid.cells n ≤ driver_count new.cells n) → ((n : ℕ) → driver_count mid.cells n ≡ 0 → r ≢ n → driver_count new.cells n ≡ 0) → Builds old new []
driven_builds old mid new x r undone unnamed same last k l d is more nets one grow others = record {
  grows = gate_grows old mid new x undone unnamed same last k l d;
  still_open = λ n o out. record {
    within = let a = o.within in let e = ap length nets in omega (arith, e, a, more);
    undriven = others n (ap (λ cells. driver_count cells n) same ∙ o.undriven) (λ e. absurd (let a = o.within in omega (arith, a, e, is)));
  };
  no_other = λ n o. (before n o, none_in n);
}
  where
    before : (n : ℕ) → IsOpen new n → IsOpen old n
    before n o =
        let e = ap length nets in
        let a = o.within in
        let z = o.undriven in
        let up = grow n in
        let was : driver_count old.cells n ≡ 0 = ap (λ cells. driver_count cells n) (sym same) ∙ omega (arith, up, z) in
        elim (cases_eq r n) [
          | inl at ↦ absurd (let here = ap (driver_count new.cells) at in omega (arith, here, one, z))
          | inr apart ↦ record { within = omega (arith, a, e, more, is, apart); undriven = was }
        ]

-- a cell was added that drives no net
pub read_builds : (old new : Draft) (x : PlainCell) → is_done x ≡ false → ((bank : ℕ) → names_bank bank x ≡ false) → new.cells ≡ old.cells ++ x ∷ [] → Keeps old new → IsDraft new → new.promised ≡ old.promised
    → ((n : ℕ) → driver_count new.cells n ≡ driver_count old.cells n) → Builds old new []
read_builds old new x undone unnamed last k d nets drivers = record {
  grows = gate_grows old old new x undone unnamed refl last (Keeps-same old) k d;
  still_open = λ n o out. record { within = let a = o.within in let e = ap length nets in omega (arith, e, a); undriven = drivers n ∙ o.undriven };
  no_other = λ n o. (record { within = let a = o.within in let e = ap length nets in omega (arith, e, a); undriven = sym (drivers n) ∙ o.undriven }, none_in n);
}

-- the lists of one port more
pub ports_more : (decls : List PortDecl) (i : ℕ) (x : PortDecl) → i < length decls → x ≡ get_or decls i x → map plain_port (take (i + 1) decls) ≡ map plain_port (take i decls) ++ plain_port x ∷ []
ports_more decls i x l is = ap (map plain_port) (take_more decls i x l ∙ ap (λ y. take i decls ++ y ∷ []) (sym is)) ∙ map-append plain_port (take i decls) (x ∷ [])

pub ports_left : (decls : List PortDecl) (i : ℕ) (x : PortDecl) → i < length decls → x ≡ get_or decls i x → map plain_port (drop i decls) ≡ plain_port x ∷ map plain_port (drop (i + 1) decls)
ports_left decls i x l is = ap (map plain_port) (drop_more decls i x l ∙ ap (λ y. y ∷ drop (i + 1) decls) (sym is))

in_cells-push : (d : Draft) (ports : List PlainPort) (nets : List ℕ) (port : PlainPort) (net : ℕ) → HaveNets d ports nets → in_cells (ports ++ port ∷ []) (nets ++ net ∷ []) ≡ in_cells ports nets ++ in_cell port.name net port.ty ∷ []
in_cells-push d [] [] port net h = refl
in_cells-push d [] (n ∷ nets) port net h = absurd h
in_cells-push d (p ∷ ports) [] port net h = absurd h
in_cells-push d (p ∷ ports) (n ∷ nets) port net h = ap (λ cells. in_cell p.name n p.ty ∷ cells) (in_cells-push d ports nets port net h.1)

have_pushed : (d : Draft) (ports : List PlainPort) (nets : List ℕ) (port : PlainPort) (net : ℕ) → HaveNets d ports nets → HasNet d net (width_of port.ty) → HaveNets d (ports ++ port ∷ []) (nets ++ net ∷ [])
have_pushed d [] [] port net h k = (k, tt)
have_pushed d [] (n ∷ nets) port net h k = absurd h
have_pushed d (p ∷ ports) [] port net h k = absurd h
have_pushed d (p ∷ ports) (n ∷ nets) port net h k = (h.0, have_pushed d ports nets port net h.1 k)

-- the draft has the cells of these arguments, on these nets, and the others can be added behind them
pub record HasInputs (d : Draft) (ports : List PlainPort) (nets : List ℕ) (rest : List PlainPort) : Type 0 where
  pub named : AreNamedAfter (filter_map in_name d.cells) rest
  pub cells : d.cells ≡ in_cells ports nets
  pub have : HaveNets d ports nets
  pub none_open : (net : ℕ) → IsOpen d net → ⊥
  pub draft : IsDraft d

-- nothing was promised or added yet
nothing : IsDraft (record { promised = []; cells = [] })
nothing = record {
  widths = λ k d l. absurd (omega (arith, l));
  right = λ before cell after e. absurd (let f = ap length e in let g = length-append before (cell ∷ after) in omega (arith, f, g));
  declared = λ cell (k, l, same). absurd (omega (arith, l));
  driven_promised = λ k d l. absurd (omega (arith, l));
  driven_once = λ net. omega arith;
  read_promised = λ k d l. absurd (omega (arith, l));
  fed_ready = λ a net f. absurd (let l = f.1.1 in omega (arith, l));
  ranked = (λ net. 0, λ a net f. absurd (let l = f.1.1 in omega (arith, l)));
}

begun_so : (promised : List (ℕ × Bool)) (cells : List PlainCell) → promised ≡ [] → cells ≡ [] → IsDraft (record { promised = promised; cells = cells })
begun_so promised cells e f = subst (λ (ps : List (ℕ × Bool)). IsDraft (record { promised = ps; cells = cells })) (sym e) (subst (λ (cs : List PlainCell). IsDraft (record { promised = []; cells = cs })) (sym f) nothing)

pub no_inputs : (d : Draft) (rest : List PlainPort) → d.promised ≡ [] → d.cells ≡ [] → AreNamed rest → HasInputs d [] [] rest
no_inputs d rest no_nets no_cells named = record {
  named = subst (λ cells. AreNamedAfter (filter_map in_name cells) rest) (sym no_cells) named;
  cells = no_cells;
  have = tt;
  none_open = λ net o. absurd (let a = o.within in let e = ap length no_nets in omega (arith, a, e));
  draft = begun_so d.promised d.cells no_nets no_cells;
}

pub input_added : (old new : Draft) (ports : List PlainPort) (nets : List ℕ) (port : PlainPort) (net : ℕ) (rest : List PlainPort) → HasInputs old ports nets (port ∷ rest) → new.cells ≡ old.cells ++ in_cell port.name net port.ty ∷ []
    → Builds old new [] → HasNet new net (width_of port.ty) → HasInputs new (ports ++ port ∷ []) (nets ++ net ∷ []) rest
input_added old new ports nets port net rest h is builds has = record {
  named = subst (λ names. AreNamedAfter names rest) (sym (ap (filter_map in_name) is ∙ filter_map-append in_name old.cells (in_cell port.name net port.ty ∷ []))) h.named.2;
  cells = is ∙ ap (λ cells. cells ++ in_cell port.name net port.ty ∷ []) h.cells ∙ sym (in_cells-push old ports nets port net h.have);
  have = have_pushed new ports nets port net (nets_stay old new ports nets builds.grows h.have) has;
  none_open = λ n o. h.none_open n (builds.no_other n o).0;
  draft = builds.grows.draft h.draft;
}

pub one_more_input : (old new : Draft) (decls : List PortDecl) (i : ℕ) (x : PortDecl) (nets : List ℕ) (net : ℕ) → i < length decls → x ≡ get_or decls i x
    → HasInputs old (map plain_port (take i decls)) nets (map plain_port (drop i decls)) → new.cells ≡ old.cells ++ in_cell (plain_port x).name net x.ty ∷ [] → Builds old new [] → HasNet new net (width_of x.ty)
    → HasInputs new (map plain_port (take (i + 1) decls)) (nets ++ net ∷ []) (map plain_port (drop (i + 1) decls))
one_more_input old new decls i x nets net l at h is builds has =
    let before = subst (λ rest. HasInputs old (map plain_port (take i decls)) nets rest) (ports_left decls i x l at) h in
    subst (λ ports. HasInputs new ports (nets ++ net ∷ []) (map plain_port (drop (i + 1) decls))) (sym (ports_more decls i x l at))
    (input_added old new (map plain_port (take i decls)) nets (plain_port x) net (map plain_port (drop (i + 1) decls)) before is builds has)

pub all_inputs : (d : Draft) (decls : List PortDecl) (i : ℕ) (nets : List ℕ) (rest : List PlainPort) → length decls ≤ i → HasInputs d (map plain_port (take i decls)) nets rest → HasInputs d (map plain_port decls) nets rest
all_inputs d decls i nets rest l h = subst (λ ds. HasInputs d (map plain_port ds) nets rest) (take_all i decls l) h

-- Of the outputs, those that are left have names that are new, and nets; with their cells the draft's are what is to stand.
pub record HasOutputs (begun d : Draft) (all : List PlainPort) (all_nets : List ℕ) (rest : List PlainPort) (nets : List ℕ) : Type 0 where
  pub named : AreNamedAfter (filter_map out_name d.cells) rest
  pub have : HaveNets d rest nets
  pub cells : d.cells ++ out_cells rest nets ≡ begun.cells ++ out_cells all all_nets
  pub builds : Builds begun d []
  pub same_nets : d.promised ≡ begun.promised
  pub drivers : (n : ℕ) → driver_count d.cells n ≡ driver_count begun.cells n

pub output_added : (begun old new : Draft) (all : List PlainPort) (all_nets : List ℕ) (port : PlainPort) (rest : List PlainPort) (net : ℕ) (nets : List ℕ) → HasOutputs begun old all all_nets (port ∷ rest) (net ∷ nets)
    → new.cells ≡ old.cells ++ out_cell port.name net port.ty ∷ [] → Builds old new [] → new.promised ≡ old.promised → ((n : ℕ) → driver_count new.cells n ≡ driver_count old.cells n) → HasOutputs begun new all all_nets rest nets
output_added begun old new all all_nets port rest net nets h is builds same drivers = record {
  named = subst (λ names. AreNamedAfter names rest) (sym (ap (filter_map out_name) is ∙ filter_map-append out_name old.cells (out_cell port.name net port.ty ∷ []))) h.named.2;
  have = nets_stay old new rest nets builds.grows h.have.1;
  cells = ap (λ cells. cells ++ out_cells rest nets) is ∙ append_assoc old.cells (out_cell port.name net port.ty ∷ []) (out_cells rest nets) ∙ h.cells;
  builds = Builds-join begun old new [] [] h.builds builds;
  same_nets = same ∙ h.same_nets;
  drivers = λ n. drivers n ∙ h.drivers n;
}

pub no_outputs : (begun : Draft) (all : List PlainPort) (all_nets : List ℕ) → filter_map out_name begun.cells ≡ [] → AreNamed all → HaveNets begun all all_nets → HasOutputs begun begun all all_nets all all_nets
no_outputs begun all all_nets none named have = record {
  named = subst (λ names. AreNamedAfter names all) (sym none) named;
  have = have;
  cells = refl;
  builds = fills_build begun begun [] (Fills-none begun);
  same_nets = refl;
  drivers = λ n. refl;
}

-- the port and the net that are at the front of those that are left
pub next_output : (begun d : Draft) (decls : List PortDecl) (nets : List ℕ) (all : List PlainPort) (all_nets : List ℕ) (i : ℕ) (x : PortDecl) (net : ℕ) → i < length decls → i < length nets → x ≡ get_or decls i x → net ≡ get_or nets i net
    → HasOutputs begun d all all_nets (map plain_port (drop i decls)) (drop i nets) → HasOutputs begun d all all_nets (plain_port x ∷ map plain_port (drop (i + 1) decls)) (net ∷ drop (i + 1) nets)
next_output begun d decls nets all all_nets i x net l m at on h =
    let left : drop i nets ≡ net ∷ drop (i + 1) nets = drop_more nets i net m ∙ ap (λ n. n ∷ drop (i + 1) nets) (sym on) in
    subst (λ ns. HasOutputs begun d all all_nets (plain_port x ∷ map plain_port (drop (i + 1) decls)) ns) left
    (subst (λ ps. HasOutputs begun d all all_nets ps (drop i nets)) (ports_left decls i x l at) h)

pub one_more_output : (begun old new : Draft) (decls : List PortDecl) (nets : List ℕ) (all : List PlainPort) (all_nets : List ℕ) (i : ℕ) (x : PortDecl) (net : ℕ) → i < length decls → i < length nets → x ≡ get_or decls i x → net ≡ get_or nets i net
    → HasOutputs begun old all all_nets (map plain_port (drop i decls)) (drop i nets) → new.cells ≡ old.cells ++ out_cell (plain_port x).name net x.ty ∷ [] → Builds old new [] → new.promised ≡ old.promised
    → ((n : ℕ) → driver_count new.cells n ≡ driver_count old.cells n) → HasOutputs begun new all all_nets (map plain_port (drop (i + 1) decls)) (drop (i + 1) nets)
one_more_output begun old new decls nets all all_nets i x net l m at on h is builds same drivers =
    output_added begun old new all all_nets (plain_port x) (map plain_port (drop (i + 1) decls)) net (drop (i + 1) nets) (next_output begun old decls nets all all_nets i x net l m at on h) is builds same drivers

pub all_outputs : (begun d : Draft) (decls : List PortDecl) (nets : List ℕ) (all : List PlainPort) (all_nets : List ℕ) (i : ℕ) → i ≡ min (length decls) (length nets)
    → HasOutputs begun d all all_nets (map plain_port (drop i decls)) (drop i nets) → d.cells ≡ begun.cells ++ out_cells all all_nets
all_outputs begun d decls nets all all_nets i end h =
    let same = net_for_each d (map plain_port (drop i decls)) (drop i nets) h.have ∙ length-map (drop i decls) plain_port in
    let a = length-drop i decls in
    let b = length-drop i nets in
    let none : drop i nets ≡ [] = nil_from_length (drop i nets) (omega (arith, end, same, a, b)) in
    let no_more : drop i decls ≡ [] = nil_from_length (drop i decls) (omega (arith, end, same, a, b)) in
    let last = subst (λ ns. d.cells ++ out_cells (map plain_port (drop i decls)) ns ≡ begun.cells ++ out_cells all all_nets) none h.cells in
    let stands = subst (λ ps. d.cells ++ out_cells (map plain_port ps) [] ≡ begun.cells ++ out_cells all all_nets) no_more last in
    sym (append-nil d.cells) ∙ stands

-- Of the DRAMs, those that are left have names that are new, and sizes; with their cells the draft's are what is to stand.
pub record HasDrams (begun d : Draft) (all rest : List PlainPort) (first : ℕ) : Type 0 where
  pub named : AreNamedAfter (filter_map dram_name d.cells) rest
  pub sizes : HaveSizes rest
  pub number : count_by is_dram d.cells ≡ first
  pub cells : d.cells ++ dram_cells first rest ≡ begun.cells ++ dram_cells 0 all
  pub builds : Builds begun d []

no_name : (x : PlainCell) → is_dram x ≡ false → dram_name x ≡ None
no_name (dram_cell dram name ty dims) e = absurd (cc)
no_name _ e = refl

none_named : (cells : List PlainCell) → NoCell is_dram cells → filter_map dram_name cells ≡ []
none_named [] none = refl
none_named (x ∷ cells) none =
    let both = or_parts (is_dram x) (list_any is_dram cells) none in
    rw (no_name x both.0, none_named cells both.1) refl

pub no_dram_yet : (begun : Draft) (all : List PlainPort) → NoCell is_dram begun.cells → AreNamed all → HaveSizes all → HasDrams begun begun all all 0
no_dram_yet begun all none named sizes = record {
  named = subst (λ names. AreNamedAfter names all) (sym (none_named begun.cells none)) named;
  sizes = sizes;
  number = none_counted is_dram begun.cells none;
  cells = refl;
  builds = fills_build begun begun [] (Fills-none begun);
}

dram_added : (begun old new : Draft) (all : List PlainPort) (port : PlainPort) (rest : List PlainPort) (first : ℕ) → HasDrams begun old all (port ∷ rest) first
    → new.cells ≡ old.cells ++ dram_cell first port.name port.ty port.dims ∷ [] → Builds old new [] → HasDrams begun new all rest (suc first)
dram_added begun old new all port rest first h is builds = record {
  named = subst (λ names. AreNamedAfter names rest) (sym (ap (filter_map dram_name) is ∙ filter_map-append dram_name old.cells (dram_cell first port.name port.ty port.dims ∷ []))) h.named.2;
  sizes = h.sizes.1;
  number = ap (count_by is_dram) is ∙ sum_by-append (λ x. cond (is_dram x) 1 0) old.cells (dram_cell first port.name port.ty port.dims ∷ []) ∙ (let n = h.number in omega (arith, n));
  cells = ap (λ cells. cells ++ dram_cells (suc first) rest) is ∙ append_assoc old.cells (dram_cell first port.name port.ty port.dims ∷ []) (dram_cells (suc first) rest) ∙ h.cells;
  builds = Builds-join begun old new [] [] h.builds builds;
}

-- the port that is at the front of those that are left
pub next_dram : (begun d : Draft) (decls : List PortDecl) (all : List PlainPort) (i : ℕ) (x : PortDecl) (first : ℕ) → i < length decls → x ≡ get_or decls i x
    → HasDrams begun d all (map plain_port (drop i decls)) first → HasDrams begun d all (plain_port x ∷ map plain_port (drop (i + 1) decls)) first
next_dram begun d decls all i x first l at h = subst (λ ps. HasDrams begun d all ps first) (ports_left decls i x l at) h

pub one_more_dram : (begun old new : Draft) (decls : List PortDecl) (all : List PlainPort) (i : ℕ) (x : PortDecl) (first next : ℕ) → i < length decls → x ≡ get_or decls i x → next ≡ first + 1
    → HasDrams begun old all (map plain_port (drop i decls)) first → new.cells ≡ old.cells ++ dram_cell first (plain_port x).name x.ty (plain_port x).dims ∷ [] → Builds old new []
    → HasDrams begun new all (map plain_port (drop (i + 1) decls)) next
one_more_dram begun old new decls all i x first next l at more h is builds =
    let same : suc first ≡ next = omega (arith, more) in
    subst (λ n. HasDrams begun new all (map plain_port (drop (i + 1) decls)) n) same
    (dram_added begun old new all (plain_port x) (map plain_port (drop (i + 1) decls)) first (next_dram begun old decls all i x first l at h) is builds)

pub all_drams : (begun d : Draft) (decls : List PortDecl) (all : List PlainPort) (i first : ℕ) → length decls ≤ i → HasDrams begun d all (map plain_port (drop i decls)) first → d.cells ≡ begun.cells ++ dram_cells 0 all
all_drams begun d decls all i first past h =
    let long = length-drop i decls in
    let no_more : drop i decls ≡ [] = nil_from_length (drop i decls) (omega (arith, past, long)) in
    sym (append-nil d.cells) ∙ subst (λ ps. d.cells ++ dram_cells first (map plain_port ps) ≡ begun.cells ++ dram_cells 0 all) no_more h.cells

-- no end stands behind a part of a circuit
no_end_yet : (begun d : Draft) (nets : List ℕ) → NoCell is_done begun.cells → Builds begun d nets → count_by is_done d.cells ≡ 0
no_end_yet begun d nets none b =
    let front = none_counted is_done begun.cells none in
    let rest = none_counted is_done b.grows.added b.grows.no_done in
    ap (count_by is_done) b.grows.stands ∙ sum_by-append (λ x. cond (is_done x) 1 0) begun.cells b.grows.added ∙ omega (arith, front, rest)

pub can_end : (begun d : Draft) (nets : List ℕ) (net : ℕ) → NoCell is_done begun.cells → Builds begun d nets → HasNet begun net 1 → CanAdd d (done_cell net)
can_end begun d nets net none b h =
    let stays = HasNet-stays begun d net 1 b.grows h in
    record { right = no_end_yet begun d nets none b; drives_promised = tt; drives_new = tt; drives_apart = tt; reads_promised = (stays.wide, tt); operands_ready = λ x. (stays.ready, tt) }

pub ended : (begun d whole : Draft) (net : ℕ) → ((n : ℕ) → IsOpen begun n → ⊥) → NoCell is_done begun.cells → Builds begun d [] → IsDraft whole → whole.promised ≡ d.promised → whole.cells ≡ d.cells ++ done_cell net ∷ []
    → ((n : ℕ) → driver_count whole.cells n ≡ driver_count d.cells n + 0) → IsComplete whole
ended begun d whole net none_open none b draft same cells drivers =
    complete whole draft no_open (ap (count_by is_done) cells ∙ sum_by-append (λ x. cond (is_done x) 1 0) d.cells (done_cell net ∷ []) ∙ ap (λ n. n + 1) (no_end_yet begun d [] none b))
  where
    no_open : (n : ℕ) → IsOpen whole n → ⊥
    no_open n o =
        let within : n < length d.promised = subst (λ ps. n < length ps) same o.within in
        let undriven : driver_count d.cells n ≡ 0 = (let u = o.undriven in let v = drivers n in omega (arith, u, v)) in
        none_open n (b.no_other n (record { within = within; undriven = undriven })).0
