-- Where tokens are refused: with the refused one no tokens are in the grammar, and those before it go on in it.
use Rattle.std.specs.Prelude.{◌≡◌, ◌≤◌, ◌-◌, ℕ, suc, List, [], ◌∷◌, ◌++◌, length, take, Err}
use Rattle.sp_reader.specs.declared.token.Token.{Token}
use Rattle.sp_reader.specs.declared.token.TokenKind.TheVariants.{Number}
use Rattle.sp_reader.specs.PlainStatement.{PlainSyntax}
use Rattle.sp_reader.specs.ProgramRules.{program}
use Rattle.sp_reader.specs.Steps.{Text, spelling_of}
use Rattle.sp_grammar.specs.Statements.{IsProgram}

-- tokens that spell the same in two texts
abbrev pub SpellAlike : (source other : Text) → List Token → Type 0
SpellAlike source other [] = Unit {0}
SpellAlike source other (t ∷ ts) = (spelling_of source t ≡ spelling_of other t) × SpellAlike source other ts

-- tokens of a text and tokens of another that are of the same kinds, one by one, and of which numbers spell the same
abbrev pub AreLike : (source other : Text) → List Token → List Token → Type 0
AreLike source other [] [] = Unit {0}
AreLike source other [] (u ∷ us) = ⊥
AreLike source other (t ∷ ts) [] = ⊥
AreLike source other (t ∷ ts) (u ∷ us) = ((t.kind ≡ u.kind) × (t.kind ≡ Number → spelling_of source t ≡ spelling_of other u)) × AreLike source other ts us

-- tokens that end within a text
abbrev pub EndWithin : Text → List Token → Type 0
EndWithin source [] = Unit {0}
EndWithin source (t ∷ ts) = (t.end ≤ length source) × EndWithin source ts

-- all tokens but the last so many
abbrev pub without_last : ℕ → List Token → List Token
without_last n ts = take (length ts - n) ts

-- a refusal with so many tokens behind the refused one is one with whatever stands there, also in another text in which the
-- tokens up to the refused one spell the same
abbrev pub RefusalsStay : Type 0
RefusalsStay = (source other : Text) (ts rest : List Token) (behind : ℕ) → SpellAlike source other (without_last behind ts) → program source ts ≡ Err (suc behind) → program other (without_last behind ts ++ rest) ≡ Err (suc (length rest))

-- no tokens that begin so are in the grammar, also not in another text in which those up to the refused one spell the same
abbrev pub NoneGoOn : Type 0
NoneGoOn = (source other : Text) (ts rest : List Token) (behind : ℕ) (tree : PlainSyntax) → SpellAlike source other (without_last behind ts) → program source ts ≡ Err (suc behind) → IsProgram other (without_last behind ts ++ rest) tree → ⊥

-- no tokens of another text that begin with tokens of these kinds, of which numbers spell the same, are in the grammar
abbrev pub NoneGoOnElsewhere : Type 0
NoneGoOnElsewhere = (source other : Text) (ts front rest : List Token) (behind : ℕ) (tree : PlainSyntax) → EndWithin source ts → AreLike source other (without_last behind ts) front → program source ts ≡ Err (suc behind) → IsProgram other (front ++ rest) tree → ⊥

-- tokens that are refused at their end aren't in the grammar
abbrev pub TheyEndTooEarly : Type 0
TheyEndTooEarly = (source : Text) (ts : List Token) (tree : PlainSyntax) → program source ts ≡ Err 0 → IsProgram source ts tree → ⊥

-- tokens before a refused one, or before the end at which they are refused, go on in the grammar. The text goes on too, since
-- it may have no number where one is called for
abbrev pub SomeGoOn : Type 0
SomeGoOn = (source : Text) (ts : List Token) (left : ℕ) → EndWithin source ts → program source ts ≡ Err left → (more : Text) × (rest : List Token) × (tree : PlainSyntax) × IsProgram (source ++ more) (without_last left ts ++ rest) tree
