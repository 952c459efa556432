-- What the parser makes of words that name files, by their number.
use Rattle.std.proofs.Common.{◌≡◌, ◌∙◌, ◌==◌, ℕ, true, false, List, [], ◌∷◌, Some, None, refl, ap, ap₂, is_some, codes, arith}
use Rattle.clap.specs.Walk.{Held, Row, Rule, Step, Text, Walk, value, idle, walk, walk_from, walked, word_met, after_step, finished, settled, nothing_held}
use Rattle.clap.specs.Faults.{walk_fault, turn_fault, word_fault, step_fault, settle_fault, defaults_fault, check_fault, entered_fault, fault_of, is_simple_and_free}
use Rattle.clap.specs.Kinds.{Kinds, or_else}
use Rattle.clap.specs.Simple.{Shape, built, entered, is_simple, matches_of}
use Rattle.clap.specs.Walk.{first_of}
use Rattle.clap.proofs.OnLiterals.{clap_on_literals}
use Rattle.clap.specs.declared.builder.value_parser.Reading.TheVariants.{AsWritten}
use Rattle.clap.specs.declared.error.kind.ErrorKind.TheVariants as kind
use Rattle.clap.specs.declared.parser.matches.ValueSource.TheVariants.{CommandLine}
use Rattle.sp_command.specs.Commands.{IsFileWord}
use Rattle.sp_command.specs.Table.{table}

abbrev shape : Shape
shape = (built table).top

pub table_is_simple : is_simple table ≡ true
table_is_simple = refl

pub table_is_free : is_simple_and_free table ≡ true
table_is_free = refl

-- ---- a word that isn't empty and doesn't begin with a hyphen is a value

not_hyphen : (c : ℕ) → (c ≡ 45 → ⊥) → (c == 45) ≡ false
not_hyphen c f = grind arith

is_value : (rules : List Rule) (position : ℕ) (w : Text) (h : Held) → IsFileWord w → word_met rules [] false idle position w h ≡ (h, value)
is_value rules position [] h f = absurd f
is_value rules position (c ∷ cs) h f = rw (not_hyphen c f, not_hyphen c f) refl

is_no_fault : (s : Shape) (w : Text) (h : Held) → IsFileWord w → word_fault s [] false idle w h ≡ []
is_no_fault s [] h f = absurd f
is_no_fault s (c ∷ cs) h f = rw (not_hyphen c f, not_hyphen c f) refl

-- ---- the walk

abbrev standing : Held → ℕ → Walk
standing h position = record { held = h; waiting = idle; position = position; is_trailing = false; stopped = None }

abbrev holding : List Row → Text → Text → Held
holding rows id word = record { rows = rows; pending = Some (id, word ∷ []); skip = 0 }

abbrev row : Text → Text → Row
row id word = record { id = id; values = word ∷ []; count = None; source = Some CommandLine; reading = AsWritten }

-- what is held after one word, after two and after three
abbrev held_1 : Text → Held
held_1 a = holding [] (codes "verb") a

abbrev held_2 : Text → Text → Held
held_2 a b = holding (row (codes "verb") a ∷ []) (codes "first") b

abbrev held_3 : Text → Text → Text → Held
held_3 a b c = holding (row (codes "verb") a ∷ row (codes "first") b ∷ []) (codes "second") c

step : (h : Held) (p : ℕ) (v : Walk) (word : Text) → IsFileWord word → after_step shape.rules word (standing h p) h value ≡ v → walked shape.rules [] (standing h p) word ≡ v
unfolding walked
step h p v word f e = ap (λ (met : Held × Step). after_step shape.rules word (standing h p) met.0 met.1) (is_value shape.rules p word h f) ∙ e

step_1 : (a : Text) → IsFileWord a → walked shape.rules [] (walk_from nothing_held) a ≡ standing (held_1 a) 2
step_1 a f = step nothing_held 1 _ a f refl

step_2 : (a b : Text) → IsFileWord b → walked shape.rules [] (standing (held_1 a) 2) b ≡ standing (held_2 a b) 3
step_2 a b f = step (held_1 a) 2 _ b f refl

step_3 : (a b c : Text) → IsFileWord c → walked shape.rules [] (standing (held_2 a b) 3) c ≡ standing (held_3 a b c) 4
step_3 a b c f = step (held_2 a b) 3 _ c f refl

walk_1 : (a : Text) → IsFileWord a → walk shape.rules [] nothing_held (a ∷ []) ≡ standing (held_1 a) 2
walk_1 a f = step_1 a f

walk_2 : (a b : Text) → IsFileWord a → IsFileWord b → walk shape.rules [] nothing_held (a ∷ b ∷ []) ≡ standing (held_2 a b) 3
walk_2 a b f g = ap (λ w. walked shape.rules [] w b) (step_1 a f) ∙ step_2 a b g

walk_3 : (a b c : Text) → IsFileWord a → IsFileWord b → IsFileWord c → walk shape.rules [] nothing_held (a ∷ b ∷ c ∷ []) ≡ standing (held_3 a b c) 4
walk_3 a b c f g h = ap (λ w. walked shape.rules [] w c) (walk_2 a b f g) ∙ step_3 a b c h

-- ---- faults of the walk

turn : (h : Held) (p : ℕ) (word : Text) (kinds : Kinds) → IsFileWord word → step_fault shape p h value ≡ kinds → turn_fault shape [] (standing h p) word ≡ kinds
turn h p word kinds f e =
    ap₂ (λ (k : Kinds) (met : Held × Step). or_else k (step_fault shape p met.0 met.1)) (is_no_fault shape word h f) (is_value shape.rules p word h f) ∙ e

turns_1 : (a : Text) (rest : List Text) → IsFileWord a → walk_fault shape [] (walk_from nothing_held) (a ∷ rest) ≡ walk_fault shape [] (standing (held_1 a) 2) rest
unfolding walk_fault
turns_1 a rest f = ap₂ (λ (k : Kinds) (w : Walk). or_else k (walk_fault shape [] w rest)) (turn nothing_held 1 a [] f refl) (step_1 a f)

turns_2 : (a b : Text) (rest : List Text) → IsFileWord b → walk_fault shape [] (standing (held_1 a) 2) (b ∷ rest) ≡ walk_fault shape [] (standing (held_2 a b) 3) rest
unfolding walk_fault
turns_2 a b rest f = ap₂ (λ (k : Kinds) (w : Walk). or_else k (walk_fault shape [] w rest)) (turn (held_1 a) 2 b [] f refl) (step_2 a b f)

turns_3 : (a b c : Text) (rest : List Text) → IsFileWord c → walk_fault shape [] (standing (held_2 a b) 3) (c ∷ rest) ≡ walk_fault shape [] (standing (held_3 a b c) 4) rest
unfolding walk_fault
turns_3 a b c rest f = ap₂ (λ (k : Kinds) (w : Walk). or_else k (walk_fault shape [] w rest)) (turn (held_2 a b) 3 c [] f refl) (step_3 a b c f)

-- a fourth word is one too many
turns_4 : (a b c d : Text) (rest : List Text) → IsFileWord d → walk_fault shape [] (standing (held_3 a b c) 4) (d ∷ rest) ≡ kind.UnknownArgument ∷ []
unfolding walk_fault
turns_4 a b c d rest f = ap (λ (k : Kinds). or_else k (walk_fault shape [] (walked shape.rules [] (standing (held_3 a b c) 4) d) rest)) (turn (held_3 a b c) 4 d _ f refl)

turns_end : (w : Walk) → walk_fault shape [] w [] ≡ []
unfolding walk_fault
turns_end w = refl

-- ---- faults of the whole

-- the faults of words over which the walk has these, and ends so
abbrev faults_by : Kinds → Walk → Kinds
faults_by kinds end = or_else kinds (or_else (entered_fault (built table) end.stopped)
    (or_else (settle_fault shape.rules shape.args_override_self end.held)
    (or_else (defaults_fault (settled shape.rules end.held).rows shape.rules)
    (check_fault shape (finished shape.rules end.held) (is_some (entered (built table) end.stopped))))))

fault_is : (words : List Text) (kinds : Kinds) (end : Walk) → walk_fault shape [] (walk_from nothing_held) words ≡ kinds → walk shape.rules [] nothing_held words ≡ end
    → fault_of table words ≡ faults_by kinds end
fault_is words kinds end f e = ap₂ faults_by f e

-- with fewer words something required is missing
pub none_is_refused : fault_of table [] ≡ kind.MissingRequiredArgument ∷ []
unfolding clap_on_literals
none_is_refused = refl

pub one_is_refused : (a : Text) → IsFileWord a → fault_of table (a ∷ []) ≡ kind.MissingRequiredArgument ∷ []
unfolding defaults_fault
one_is_refused a f = fault_is (a ∷ []) [] (standing (held_1 a) 2) (turns_1 a [] f ∙ turns_end _) (walk_1 a f)

pub two_are_taken : (a b : Text) → IsFileWord a → IsFileWord b → fault_of table (a ∷ b ∷ []) ≡ []
unfolding defaults_fault
two_are_taken a b f g = fault_is (a ∷ b ∷ []) [] (standing (held_2 a b) 3) (turns_1 a _ f ∙ turns_2 a b [] g ∙ turns_end _) (walk_2 a b f g)

pub three_are_taken : (a b c : Text) → IsFileWord a → IsFileWord b → IsFileWord c → fault_of table (a ∷ b ∷ c ∷ []) ≡ []
unfolding defaults_fault
three_are_taken a b c f g h =
    fault_is (a ∷ b ∷ c ∷ []) [] (standing (held_3 a b c) 4) (turns_1 a _ f ∙ turns_2 a b _ g ∙ turns_3 a b c [] h ∙ turns_end _) (walk_3 a b c f g h)

pub more_are_refused : (a b c d : Text) (rest : List Text) → IsFileWord a → IsFileWord b → IsFileWord c → IsFileWord d
    → fault_of table (a ∷ b ∷ c ∷ d ∷ rest) ≡ kind.UnknownArgument ∷ []
more_are_refused a b c d rest f g h i =
    fault_is (a ∷ b ∷ c ∷ d ∷ rest) _ _ (turns_1 a _ f ∙ turns_2 a b _ g ∙ turns_3 a b c _ h ∙ turns_4 a b c d rest i) refl

-- ---- what is found

found : (words : List Text) (end : Walk) (id : Text) → walk shape.rules [] nothing_held words ≡ end → first_of id (matches_of table words) ≡ first_of id (finished shape.rules end.held)
found words end id e = ap (λ (w : Walk). first_of id (finished shape.rules w.held)) e

module _ (a b : Text) (f : IsFileWord a) (g : IsFileWord b) where
  pub verb_of_two : first_of (codes "verb") (matches_of table (a ∷ b ∷ [])) ≡ Some a
  verb_of_two = found (a ∷ b ∷ []) (standing (held_2 a b) 3) (codes "verb") (walk_2 a b f g)

  pub first_of_two : first_of (codes "first") (matches_of table (a ∷ b ∷ [])) ≡ Some b
  first_of_two = found (a ∷ b ∷ []) (standing (held_2 a b) 3) (codes "first") (walk_2 a b f g)

  pub second_of_two : first_of (codes "second") (matches_of table (a ∷ b ∷ [])) ≡ None
  second_of_two = found (a ∷ b ∷ []) (standing (held_2 a b) 3) (codes "second") (walk_2 a b f g)

  module _ (c : Text) (h : IsFileWord c) where
    pub verb_of_three : first_of (codes "verb") (matches_of table (a ∷ b ∷ c ∷ [])) ≡ Some a
    verb_of_three = found (a ∷ b ∷ c ∷ []) (standing (held_3 a b c) 4) (codes "verb") (walk_3 a b c f g h)

    pub first_of_three : first_of (codes "first") (matches_of table (a ∷ b ∷ c ∷ [])) ≡ Some b
    first_of_three = found (a ∷ b ∷ c ∷ []) (standing (held_3 a b c) 4) (codes "first") (walk_3 a b c f g h)

    pub second_of_three : first_of (codes "second") (matches_of table (a ∷ b ∷ c ∷ [])) ≡ Some c
    second_of_three = found (a ∷ b ∷ c ∷ []) (standing (held_3 a b c) 4) (codes "second") (walk_3 a b c f g h)
