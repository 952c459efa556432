-- The names and the nets of ports.
use Rattle.std.proofs.Common.{◌≡◌, ℕ, zero, suc, ◌*◌, ◌^◌, ◌<◌, ◌≤◌, ◌==◌, ⊎_elim, Bool, true, false, not, ◌&&◌, ◌||◌, nat_le, List, [], ◌∷◌, ◌++◌, length, slice_index, slice_index_or, get_or, All, Contains, refl, sym, subst, ◌∙◌, arith, eqb-true}
use Rattle.std.specs.List.{list_all, list_any}
use Rattle.std.specs.Str.{bytes_eq}
use Rattle.std.proofs.Math.Nat.{le-mul_of_pos_right, mul_comm}
use Rattle.std.proofs.lemmas.Bool.{and_parts, false≢true, leb-true}
use Rattle.std.proofs.lemmas.List.{nil_from_length}
use Rattle.std.proofs.lemmas.List.Elements.{All-cons, All-nil, Contains-push_cases}
use Rattle.std.proofs.lemmas.List.Folds.{list_any_at}
use Rattle.std.proofs.lemmas.Slice.Eq.{bytes_eq-Decides}
use Rattle.sp_words.specs.Interface.{word_count}
use Rattle.sp_words.specs.Names.{IsName, is_name, reserved_words}
use Rattle.sp_words.specs.Ports.{PlainPort}
use Rattle.sp_words.specs.Types.{width_of}
use Rattle.sp_netlist.specs.Draft.{Draft}
use Rattle.sp_netlist.specs.Rules.{IsLength}
use Rattle.sp_gates.specs.Grows.{Grows}
use Rattle.sp_gates.specs.Nets.{HasNet}
use Rattle.sp_gates.proofs.Growing.{HasNet-stays}
use Rattle.sp_core.specs.MemoryRules.{is_port_name, names_of, are_port_names, are_ports_of, has_words, is_dram_right}
use Rattle.sp_core.specs.PlainCore.{PlainMem}
use Rattle.sp_core.specs.Typed.{is_type}
use Rattle.sp_frames.specs.Ports.{AreNamedAfter, AreNamed, HaveNoDims, HaveSizes, HaveNets}

is_not : (b : Bool) → not b ≡ true → b ≡ false
is_not false e = refl
is_not true e = absurd (cc)

-- a list in which a name was looked for and not found
not_found : (name : List ℕ) (names : List (List ℕ)) → list_any (λ other. bytes_eq name other) names ≡ false → Contains names name → ⊥
not_found name names none (k, l, same) = false≢true (sym none ∙ list_any_at (λ other. bytes_eq name other) names k name l ((bytes_eq-Decides name (get_or names k name)).1 (sym same)))

no_word : (name : List ℕ) (words : List (List ℕ)) → list_any (λ word. bytes_eq word name) words ≡ false → Contains words name → ⊥
no_word name words none (k, l, same) = false≢true (sym none ∙ list_any_at (λ word. bytes_eq word name) words k name l ((bytes_eq-Decides (get_or words k name) name).1 same))

named : (name : List ℕ) → is_port_name name ≡ true → IsName name
named name e =
    let both = and_parts (is_name name) (not (list_any (λ word. bytes_eq word name) reserved_words)) e in
    record { letters = both.0; free = no_word name reserved_words (is_not _ both.1) }

-- names of which each is none of these, nor of those behind it
named_after : (before : List (List ℕ)) (ports : List PlainPort) → ((name : List ℕ) → Contains before name → list_any (λ other. bytes_eq name other) (names_of ports) ≡ false) → are_port_names (names_of ports) ≡ true → AreNamedAfter before ports
named_after before [] apart e = tt
named_after before (port ∷ ports) apart e =
    let both = and_parts (is_port_name port.name && not (list_any (λ other. bytes_eq port.name other) (names_of ports))) (are_port_names (names_of ports)) e in
    let here = and_parts (is_port_name port.name) (not (list_any (λ other. bytes_eq port.name other) (names_of ports))) both.0 in (
      named port.name here.0,
      λ c. false≢true (sym (apart port.name c) ∙ list_any_at (λ other. bytes_eq port.name other) (names_of (port ∷ ports)) 0 port.name (omega arith) ((bytes_eq-Decides port.name port.name).1 refl)),
      named_after (before ++ port.name ∷ []) ports (λ name c. ⊎_elim (λ b. later name (apart name b)) (λ same. subst (λ n. list_any (λ other. bytes_eq n other) (names_of ports) ≡ false) same (is_not _ here.1)) (Contains-push_cases before port.name name c)) both.1,
    )
  where
    later : (name : List ℕ) → list_any (λ other. bytes_eq name other) (names_of (port ∷ ports)) ≡ false → list_any (λ other. bytes_eq name other) (names_of ports) ≡ false
    later name none = go (bytes_eq name port.name) none
      where
        go : (b : Bool) → (b || list_any (λ other. bytes_eq name other) (names_of ports)) ≡ false → list_any (λ other. bytes_eq name other) (names_of ports) ≡ false
        go true h = absurd (cc)
        go false h = h

pub are_named : (ports : List PlainPort) → are_port_names (names_of ports) ≡ true → AreNamed ports
are_named ports e = named_after [] ports (λ name (k, l, same). absurd (omega (arith, l))) e

no_length : (dims : List ℕ) → (length dims == 0) ≡ true → dims ≡ []
no_length dims e = nil_from_length dims (eqb-true (length dims) 0 e)

pub no_dims : (ports : List PlainPort) (mems : List PlainMem) → are_ports_of ports mems ≡ true → HaveNoDims ports
no_dims [] mems e = tt
no_dims (port ∷ ports) [] e = absurd (cc)
no_dims (port ∷ ports) (m ∷ mems) e =
    let both = and_parts (bytes_eq port.name m.name && (is_type port.ty m.ty && (length port.dims == 0))) (are_ports_of ports mems) e in
    let here = and_parts (bytes_eq port.name m.name) (is_type port.ty m.ty && (length port.dims == 0)) both.0 in
    (no_length port.dims (and_parts (is_type port.ty m.ty) (length port.dims == 0) here.1).1, no_dims ports mems both.1)

-- a dimension is no more than all words, of which there is one at least
some_words : (d n : ℕ) → 1 ≤ d * n → (1 ≤ d) × (1 ≤ n)
some_words zero n l = absurd (omega (arith, l))
some_words (suc d) zero l = absurd (let none : suc d * 0 ≡ 0 = omega arith in omega (arith, l, none))
some_words (suc d) (suc n) l = (omega arith, omega arith)

lengths : (most : ℕ) (dims : List ℕ) → most < 2 ^ 31 → 1 ≤ word_count dims → word_count dims ≤ most → All IsLength dims
lengths most [] few some le = All-nil IsLength
lengths most (d ∷ dims) few some le =
    let parts = some_words d (word_count dims) some in
    let wide : d ≤ d * word_count dims = le-mul_of_pos_right d (omega (arith, parts.1)) in
    let deep : word_count dims ≤ word_count dims * d = le-mul_of_pos_right (word_count dims) (omega (arith, parts.0)) in
    let other : word_count dims * d ≡ d * word_count dims = mul_comm (word_count dims) d in
    All-cons IsLength d dims (parts.0, omega (arith, wide, le, few)) (lengths most dims few parts.1 (omega (arith, deep, other, le)))

pub sizes : (ports : List PlainPort) → list_all is_dram_right ports ≡ true → HaveSizes ports
sizes [] e = tt
sizes (port ∷ ports) e =
    let both = and_parts (is_dram_right port) (list_all is_dram_right ports) e in
    let here = and_parts (nat_le 1 (length port.dims) && nat_le (length port.dims) 3) (has_words 67108864 port.dims) both.0 in
    let rank = and_parts (nat_le 1 (length port.dims)) (nat_le (length port.dims) 3) here.0 in
    let words = and_parts (nat_le 1 (word_count port.dims)) (nat_le (word_count port.dims) 67108864) here.1 in
    ((leb-true 1 (length port.dims) rank.0, leb-true (length port.dims) 3 rank.1, lengths 67108864 port.dims (omega arith) (leb-true 1 (word_count port.dims) words.0) (leb-true (word_count port.dims) 67108864 words.1)), sizes ports both.1)

pub nets_stay : (old new : Draft) (ports : List PlainPort) (nets : List ℕ) → Grows old new → HaveNets old ports nets → HaveNets new ports nets
nets_stay old new [] [] g h = tt
nets_stay old new [] (net ∷ nets) g h = absurd h
nets_stay old new (port ∷ ports) [] g h = absurd h
nets_stay old new (port ∷ ports) (net ∷ nets) g h = (HasNet-stays old new net (width_of port.ty) g h.0, nets_stay old new ports nets g h.1)

pub net_for_each : (d : Draft) (ports : List PlainPort) (nets : List ℕ) → HaveNets d ports nets → length nets ≡ length ports
net_for_each d [] [] h = refl
net_for_each d [] (net ∷ nets) h = absurd h
net_for_each d (port ∷ ports) [] h = absurd h
net_for_each d (port ∷ ports) (net ∷ nets) h = let rest = net_for_each d ports nets h.1 in omega (arith, rest)

pub has_nets : (d : Draft) (ports : List PlainPort) (nets : List ℕ) → length nets ≡ length ports
    → ((i : ℕ) (other : PlainPort) → i < length ports → HasNet d (slice_index nets i) (width_of (slice_index_or ports i other).ty)) → HaveNets d ports nets
has_nets d [] [] many each = tt
has_nets d [] (net ∷ nets) many each = absurd (omega (arith, many))
has_nets d (port ∷ ports) [] many each = absurd (omega (arith, many))
has_nets d (port ∷ ports) (net ∷ nets) many each = (each 0 port (omega arith), has_nets d ports nets (omega (arith, many)) (λ i other l. each (suc i) other (omega (arith, l))))

pub each_net : (d : Draft) (ports : List PlainPort) (nets : List ℕ) → HaveNets d ports nets
    → (i : ℕ) (other : PlainPort) → i < length ports → HasNet d (slice_index nets i) (width_of (slice_index_or ports i other).ty)
each_net d [] nets h i other l = absurd (omega (arith, l))
each_net d (port ∷ ports) [] h i other l = absurd h
each_net d (port ∷ ports) (net ∷ nets) h zero other l = h.0
each_net d (port ∷ ports) (net ∷ nets) h (suc i) other l = each_net d ports nets h.1 i other (omega (arith, l))
