use Rattle.std.proofs.Common.{◌≡◌, ℕ, ◌+◌, ◌*◌, ◌≤◌, max, drop, map}
use Rattle.std.specs.Prelude.{sum_by, count_by}
use Rattle.sp_words.specs.Interface.{word_count}
use Rattle.sp_tree.specs.Counts as plain
use Rattle.sp_tree.specs.Expressions.{dims}
use Rattle.sp_tree.specs.Plain.{plain_mem}
use Rattle.sp_tree.specs.Tallies.{is_among}
use Rattle.sp_counts.specs.Capped.{most, capped}
use Rattle.sp_counts.specs.Copies.{copy_of}
use Rattle.sp_counts.specs.Pieces.{piece_of}
use Rattle.sp_counts.proofs.words.copy_words.Given as goal

abbrev pub invariant-loop-copies : goal.invariant-loop-copies
invariant-loop-copies l = (l.total ≤ most) × (capped (l.total + sum_by (λ (c : ℕ × ℕ). word_count (dims (map plain_mem l.mems) c.0) * c.1 * max 1 (count_by (λ (x : plain.Piece). is_among c.0 x.reads) (map piece_of l.pieces))) (map copy_of (drop l.copies-index l.all))) ≡ capped (sum_by (λ (c : ℕ × ℕ). word_count (dims (map plain_mem l.mems) c.0) * c.1 * max 1 (count_by (λ (x : plain.Piece). is_among c.0 x.reads) (map piece_of l.pieces))) (map copy_of l.all)))
