-- The pieces of a line of Verilog text. W below is a width, and numbers stand in decimal.
use Rattle.std.specs.Prelude.{ℕ, ◌-◌, ◌^◌, List, [], ◌∷◌, ◌++◌, codes, decimal, min, if◌then◌else◌}
use Rattle.sp_words.specs.declared.types.Ty.{Ty}
use Rattle.sp_words.specs.Types.{signed_of, width_of}

-- the wire or register of a net, and a part of it by its own name
abbrev pub net_name : ℕ → List ℕ
net_name net = codes "n" ++ decimal net

abbrev pub part_name : ℕ → List ℕ → List ℕ
part_name net part = codes "n" ++ (decimal net ++ (codes "_" ++ part))

-- the memory of a bank, and a port of a channel
abbrev pub bank_name : ℕ → List ℕ
bank_name bank = codes "b" ++ decimal bank

abbrev pub channel_port : ℕ → List ℕ → List ℕ
channel_port channel port = codes "c" ++ (decimal channel ++ (codes "_" ++ port))

-- the port of a result
unfoldable pub result_name : List ℕ → List ℕ
result_name name = codes "out_" ++ name

-- [W-1:0]
unfoldable pub range : ℕ → List ℕ
range width = codes "[" ++ (decimal (width - 1) ++ codes ":0]")

-- a word of a width
unfoldable pub sized : ℕ → ℕ → List ℕ
sized width word = decimal width ++ (codes "'d" ++ decimal word)

unfoldable pub assign : (target source : List ℕ) → List ℕ
assign target source = codes "assign " ++ (target ++ (codes " = " ++ (source ++ codes ";")))

-- a wire that is given a name and a word in one line
unfoldable pub wire_head : ℕ → (name : List ℕ) → List ℕ
wire_head width name = codes "wire " ++ (range width ++ (codes " " ++ (name ++ codes " = ")))

unfoldable pub wire : ℕ → (name source : List ℕ) → List ℕ
wire width name source = wire_head width name ++ (source ++ codes ";")

-- a word where the choice is 1, and another where it is 0
unfoldable pub choose : (choice one other : List ℕ) → List ℕ
choose choice one other = choice ++ (codes " ? " ++ (one ++ (codes " : " ++ other)))

-- two's complement turned round
unfoldable pub negated : ℕ → List ℕ → List ℕ
negated width word = codes "~" ++ (word ++ (codes " + " ++ sized width 1))

-- the sign bit of a net of a type
unfoldable pub sign : Ty → ℕ → List ℕ
sign ty net = if signed_of ty then net_name net ++ (codes "[" ++ (decimal (width_of ty - 1) ++ codes "]")) else codes "1'd0"

-- a word with its sign bit turned: words with sign compare as these do without
abbrev pub biased : ℕ → ℕ → List ℕ
biased width net = codes "(" ++ (net_name net ++ (codes " ^ " ++ (sized width (2 ^ (width - 1)) ++ codes ")")))

unfoldable pub less : Ty → (a b : ℕ) → List ℕ
less ty a b =
    if signed_of ty
    then biased (width_of ty) a ++ (codes " < " ++ biased (width_of ty) b)
    else net_name a ++ (codes " < " ++ net_name b)

-- the greatest number of a width whose lowest bits, all but so many, are 0
abbrev pub top_ones : (width places : ℕ) → ℕ
top_ones width places = 2 ^ width - 2 ^ (width - min places width)
