-- The nets of operations: of a counter or a lane the one with its word, of a read or a take the one on which its word comes.
use Rattle.std.specs.Prelude.{ℕ, List, slice_index_or}
use Rattle.sp_circuit_ops.specs.declared.ops.WordNet.{WordNet}

abbrev pub net_at : List WordNet → (place : ℕ) → ℕ
net_at nets k = (slice_index_or nets k (record { net = 0; after = 0 })).net

-- how many cycles later it comes
abbrev pub after_at : List WordNet → (place : ℕ) → ℕ
after_at nets k = (slice_index_or nets k (record { net = 0; after = 0 })).after
