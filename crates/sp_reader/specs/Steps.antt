-- The steps that every rule of the plain reader is made of. A rule takes tokens, and gives what stands at their
-- front and the tokens that are left, or how many are left from the first on with which it can't go on.
use Rattle.std.specs.Prelude.{◌≡◌, ℕ, Bool, true, false, if◌then◌else◌, List, [], ◌∷◌, length, take, drop, Result, Ok, Err, ◌-◌, ◌&&◌, nat_le}
use denote.Enum.Bare.{sameb}
use Rattle.sp_reader.specs.contracts.token.TokenKind.{the_type}
use Rattle.sp_reader.specs.declared.token.TokenKind.{TokenKind}
use Rattle.sp_reader.specs.declared.token.TokenKind.TheVariants.{End, Name, To, Value, Enq, Deq, Gather, Scatter, Semicolon}
use Rattle.sp_reader.specs.declared.token.Token.{Token}
use Rattle.sp_reader.specs.declared.error.Stop.{Stop}
use Rattle.sp_reader.specs.declared.error.Stop.TheVariants.{NoParse, Memory}

abbrev pub Text : Type 0
Text = List ℕ

abbrev pub Outcome : Type 0 → Type 0
Outcome A = Result (A × List Token) ℕ

abbrev pub Rule : Type 0 → Type 0
Rule A = List Token → Outcome A

abbrev pub and_then : {A B : Type 0} → Outcome A → (A → Rule B) → Outcome B
and_then (Ok p) f = f p.0 p.1
and_then (Err e) f = Err e

infixl 10 ◌>>=◌
abbrev pub ◌>>=◌ : {A B : Type 0} → Rule A → (A → Rule B) → Rule B
p >>= f = λ ts. and_then (p ts) f

abbrev pub pure : {A : Type 0} → A → Rule A
pure a = λ ts. Ok (a, ts)

abbrev pub refuse : {A : Type 0} → Rule A
refuse = λ ts. Err (length ts)

-- ---- the next token

-- `==` on kinds
unfoldable pub same_kind : TokenKind → TokenKind → Bool
same_kind = sameb the_type

abbrev pub is_name : TokenKind → Bool
is_name Name = true
is_name To = true
is_name Value = true
is_name Enq = true
is_name Deq = true
is_name Gather = true
is_name Scatter = true
is_name _ = false

unfoldable pub kind_of : List Token → TokenKind
kind_of [] = End
kind_of (t ∷ ts) = t.kind

unfoldable pub tail_of : List Token → List Token
tail_of [] = []
tail_of (t ∷ ts) = ts

unfoldable pub place_of : List Token → ℕ
place_of [] = 0
place_of (t ∷ ts) = t.at

unfoldable pub sees : TokenKind → List Token → Bool
sees k ts = same_kind (kind_of ts) k

-- takes the next token
abbrev pub next : Rule (Unit {0})
next = λ ts. Ok (tt, tail_of ts)

-- takes a token of this kind
unfoldable pub skip : TokenKind → Rule (Unit {0})
skip k = λ ts. if sees k ts then Ok (tt, tail_of ts) else Err (length ts)

-- any number of `;`
unfoldable pub semicolons : List Token → List Token
semicolons [] = []
semicolons (t ∷ ts) = if same_kind t.kind Semicolon then semicolons ts else t ∷ ts

-- the bytes of a token
unfoldable pub spelling_of : Text → Token → Text
spelling_of source t = if nat_le t.at t.end && nat_le t.end (length source) then take (t.end - t.at) (drop t.at source) else []

unfoldable pub spelling : Text → List Token → Text
spelling source [] = []
spelling source (t ∷ ts) = spelling_of source t

-- ---- what a function ensures: the rule's outcome, unless memory fails

abbrev pub Fails : {A : Type 0} → Stop → Result A ℕ → Type 0
Fails (NoParse left) outcome = outcome ≡ Err left
Fails Memory outcome = Unit {0}

abbrev pub Gives : {X Y : Type 0} → (X → Y) → Result X Stop → Result Y ℕ → Type 0
Gives view (Ok x) outcome = outcome ≡ Ok (view x)
Gives view (Err e) outcome = Fails e outcome
