-- The entries of lanes at an element, and those at the others.
use Rattle.std.proofs.Common.{◌≡◌, ℕ, suc, ◌<◌, List, [], ◌∷◌, length, map, refl, ◌∙◌, ap, arith}
use Rattle.sp_words.specs.declared.types.Ty.{Ty}
use Rattle.sp_core.specs.History.{Entry, word_at}
use Rattle.sp_core.specs.PlainCore.{PlainOp}
use Rattle.sp_core.specs.Typed.{gives}
use Rattle.std.specs.Prelude.{true}
use Rattle.sp_fitting.specs.Fitting.{EntriesFit}
use Rattle.sp_lane_rules.specs.UnrolledMeetings.{given_of}
use Rattle.sp_lane_groups.specs.JoinedWords.{words_of, EachHasWord}
use Rattle.sp_lane_trees.specs.ElementsCells.{firsts, others, HaveWordFor}
use Rattle.sp_lane_trees.proofs.CombinationsRights.{word_fits}

-- the words of a lane, and of all lanes
abbrev pub front_words : (word : ℕ) → List (List Entry) → List ℕ
front_words word fronts = map (λ f. word_at f word) fronts

abbrev pub lane_words : (word : ℕ) → List (List (List Entry)) → List (List ℕ)
lane_words word lanes = map (front_words word) lanes

-- each lane has so many
abbrev pub EachSized : (n : ℕ) → List (List (List Entry)) → Type 0
EachSized n [] = Unit {0}
EachSized n (fs ∷ rest) = (length fs ≡ n) × EachSized n rest

pub firsts_are : (word n : ℕ) (lanes : List (List (List Entry))) → EachSized (suc n) lanes → firsts 0 (lane_words word lanes) ≡ words_of word (firsts [] lanes)
firsts_are word n [] h = refl
firsts_are word n ([] ∷ lanes) h = absurd (let e = h.0 in omega (arith, e))
firsts_are word n ((f ∷ fs) ∷ lanes) h = ap (λ l. word_at f word ∷ l) (firsts_are word n lanes h.1)

pub others_are : (word n : ℕ) (lanes : List (List (List Entry))) → EachSized (suc n) lanes → others (lane_words word lanes) ≡ lane_words word (others lanes)
others_are word n [] h = refl
others_are word n ([] ∷ lanes) h = absurd (let e = h.0 in omega (arith, e))
others_are word n ((f ∷ fs) ∷ lanes) h = ap (λ l. front_words word fs ∷ l) (others_are word n lanes h.1)

pub others_sized : (n : ℕ) (lanes : List (List (List Entry))) → EachSized (suc n) lanes → EachSized n (others lanes)
others_sized n [] h = tt
others_sized n ([] ∷ lanes) h = absurd (let e = h.0 in omega (arith, e))
others_sized n ((f ∷ fs) ∷ lanes) h = ((let e = h.0 in omega (arith, e)), others_sized n lanes h.1)

pub firsts_long : (lanes : List (List (List Entry))) → length (firsts [] lanes) ≡ length lanes
firsts_long [] = refl
firsts_long ([] ∷ lanes) = ap suc (firsts_long lanes)
firsts_long ((f ∷ fs) ∷ lanes) = ap suc (firsts_long lanes)

pub others_long : (lanes : List (List (List Entry))) → length (others lanes) ≡ length lanes
others_long [] = refl
others_long ([] ∷ lanes) = ap suc (others_long lanes)
others_long ((f ∷ fs) ∷ lanes) = ap suc (others_long lanes)

words_long : (word : ℕ) (fs : List (List Entry)) → length (front_words word fs) ≡ length fs
words_long word [] = refl
words_long word (f ∷ fs) = ap suc (words_long word fs)

pub have_for : (word : ℕ) (places : List ℕ) (lanes : List (List (List Entry))) → EachSized (length places) lanes → HaveWordFor places (lane_words word lanes)
have_for word places [] h = tt
have_for word places (fs ∷ lanes) h = (words_long word fs ∙ h.0, have_for word places lanes h.1)

-- what fits in each lane
abbrev pub FrontsFit : List PlainOp → List (List Entry) → Type 0
FrontsFit ops [] = Unit {0}
FrontsFit ops (f ∷ fronts) = EntriesFit ops f × FrontsFit ops fronts

abbrev pub LanesFit : List PlainOp → List (List (List Entry)) → Type 0
LanesFit ops [] = Unit {0}
LanesFit ops (fs ∷ rest) = FrontsFit ops fs × LanesFit ops rest

pub firsts_fit : (ops : List PlainOp) (n : ℕ) (lanes : List (List (List Entry))) → EachSized (suc n) lanes → LanesFit ops lanes → FrontsFit ops (firsts [] lanes)
firsts_fit ops n [] e h = tt
firsts_fit ops n ([] ∷ lanes) e h = absurd (let i = e.0 in omega (arith, i))
firsts_fit ops n ((f ∷ fs) ∷ lanes) e h = (h.0.0, firsts_fit ops n lanes e.1 h.1)

pub others_fit : (ops : List PlainOp) (n : ℕ) (lanes : List (List (List Entry))) → EachSized (suc n) lanes → LanesFit ops lanes → LanesFit ops (others lanes)
others_fit ops n [] e h = tt
others_fit ops n ([] ∷ lanes) e h = absurd (let i = e.0 in omega (arith, i))
others_fit ops n ((f ∷ fs) ∷ lanes) e h = (h.0.1, others_fit ops n lanes e.1 h.1)

entries_long : (ops : List PlainOp) (es : List Entry) → EntriesFit ops es → length es ≡ length ops
entries_long [] [] h = refl
entries_long [] (e ∷ es) h = absurd h
entries_long (op ∷ ops) [] h = absurd h
entries_long (op ∷ ops) (e ∷ es) h = ap suc (entries_long ops es h.1)

pub fronts_have : (ops : List PlainOp) (word : ℕ) (ty : Ty) → word < length ops → gives (given_of ops) word ty ≡ true → (groups : List (List Entry)) → FrontsFit ops groups → EachHasWord ty word groups
fronts_have ops word ty lt given [] h = tt
fronts_have ops word ty lt given (g ∷ groups) h = ((let long = entries_long ops g h.0 in omega (arith, long, lt)), word_fits ops g word ty h.0 given, fronts_have ops word ty lt given groups h.1)
