-- Places of elements by their indices.
use Rattle.std.specs.Prelude.{ℕ, List, map, Option, Some, None, if◌then◌else◌}
use Rattle.sp_tree.specs.Elements.{index_value, natural, are_inside, row_major}

-- where the element at these indices stands, words of `Int`, if each is inside of its dimension
abbrev pub place_in : (dims indices : List ℕ) → Option ℕ
place_in dims indices =
    if are_inside dims (map index_value indices) then Some (row_major dims (map (λ i. natural (index_value i)) indices)) else None
