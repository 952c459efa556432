-- No dimension of a DRAM is greater than 2^26.
use Rattle.std.proofs.Common.{◌≡◌, ℕ, zero, suc, ◌+◌, ◌-◌, ◌*◌, ◌^◌, ◌<◌, ◌≤◌, Bool, true, false, ◌&&◌, List, [], ◌∷◌, length, refl, ap, ◌∙◌, arith, slice_index_or, if◌then◌else◌}
use Rattle.std.proofs.lemmas.Bool.{and_parts, and_from, ltb-true}
use Rattle.std.specs.List.{list_all}
use Rattle.std.specs.Prelude.{nat_lt, nat_le}
use Rattle.sp_words.specs.Interface.{word_count}
use Rattle.sp_words.specs.Ports.{PlainPort}
use Rattle.sp_core.specs.Declarations.{mem, dram, dram_number, dims}
use Rattle.sp_core.specs.MemoryRules.{has_words, is_mem_right, is_dram_right, are_memories_right}
use Rattle.sp_core.specs.PlainCore.{no_port, PlainCore}

abbrev pub are_small : List ℕ → Bool
are_small ds = list_all (λ d. nat_le d (2 ^ 26)) ds

at_most : (a b : ℕ) → nat_le a b ≡ true → a ≤ b
at_most a b h = grind arith

as_test : (a b : ℕ) → a ≤ b → nat_le a b ≡ true
as_test a b h = grind arith

factor : (d rest most : ℕ) → 1 ≤ d * rest → d * rest ≤ most → d ≤ most
factor d zero most h k = absurd (omega (arith, h))
factor d (suc rest) most h k = omega (arith, k)

others : (d rest most : ℕ) → 1 ≤ d * rest → d * rest ≤ most → (1 ≤ rest) × (rest ≤ most)
others zero rest most h k = absurd (omega (arith, h))
others (suc d) zero most h k = absurd (omega (arith, h))
others (suc d) (suc rest) most h k = (omega arith, omega (arith, k))

all_small : (ds : List ℕ) → 1 ≤ word_count ds → word_count ds ≤ 2 ^ 26 → are_small ds ≡ true
all_small [] h k = refl
all_small (d ∷ ds) h k =
    let rest = others d (word_count ds) (2 ^ 26) h k in
    and_from (nat_le d (2 ^ 26)) (are_small ds) (as_test d (2 ^ 26) (factor d (word_count ds) (2 ^ 26) h k)) (all_small ds rest.0 rest.1)

port_right : (drams : List PlainPort) (r : ℕ) → list_all is_dram_right drams ≡ true → r < length drams → is_dram_right (slice_index_or drams r no_port) ≡ true
port_right [] r h k = absurd (omega (arith, k))
port_right (x ∷ drams) zero h k = (and_parts (is_dram_right x) (list_all is_dram_right drams) h).0
port_right (x ∷ drams) (suc r) h k = port_right drams r (and_parts (is_dram_right x) (list_all is_dram_right drams) h).1 (omega (arith, k))

port_small : (p : PlainPort) → is_dram_right p ≡ true → are_small p.dims ≡ true
port_small p h =
    let a = and_parts (nat_le 1 (length p.dims) && nat_le (length p.dims) 3) (has_words 67108864 p.dims) h in
    let b = and_parts (nat_le 1 (word_count p.dims)) (nat_le (word_count p.dims) 67108864) a.1 in
    let most : word_count p.dims ≤ 67108864 = at_most (word_count p.dims) 67108864 b.1 in
    all_small p.dims (at_most 1 (word_count p.dims) b.0) (omega (arith, most))

-- a DRAM stands after all memories
not_less : (n r : ℕ) → nat_lt (n + r) n ≡ false
not_less n r = grind arith

back : (n r : ℕ) → (n + r) - n ≡ r
back n r = omega arith

pub drams_small : (core : PlainCore) (r : ℕ) → are_memories_right core ≡ true → nat_lt r (length core.ports.drams) ≡ true → are_small (dims core (dram_number core r)) ≡ true
drams_small core r right less =
    let ports = (and_parts (list_all is_mem_right core.mems) (list_all is_dram_right core.ports.drams) right).1 in
    ap (λ b. are_small (if b then (mem core (dram_number core r)).dims else (dram core (dram_number core r - length core.mems)).dims)) (not_less (length core.mems) r)
    ∙ ap (λ k. are_small (dram core k).dims) (back (length core.mems) r)
    ∙ port_small (dram core r) (port_right core.ports.drams r ports (ltb-true r (length core.ports.drams) less))
