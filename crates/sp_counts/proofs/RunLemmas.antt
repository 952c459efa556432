-- A statement that is neither a controller nor a transfer joins the run before it; any other ends the run.
use Rattle.std.proofs.Common.{◌≡◌, ℕ, ◌++◌, true, false, [], ◌∷◌, map, Option, Some, None, refl, sym, zero-add}
use Rattle.sp_tree.specs.Counts.{a_run, a_part, pieces, inner_pieces}
use Rattle.sp_tree.specs.PlainStatement.{PlainStmtKind, PlainStmts, stmt, more_stmt}
use Rattle.sp_tree.specs.Structure.{outside, stages, inner_stage, stages_before, uses_inside, inside, primitive_uses}
use Rattle.sp_tree.specs.Streams.{body_tally}
use Rattle.sp_tree.specs.Tallies as plain
use Rattle.sp_tree.specs.Tallies.{◌&◌, nothing, primitive, uses_of}
use Rattle.sp_counts.specs.declared.tally.Tally.{Tally}
use Rattle.sp_counts.specs.Tallies.{tally_of, Grows, is_primitive, primitive_tally}

pub grown : (one two : Tally) (t : plain.Tally) → Grows one two t → tally_of two ≡ tally_of one & t
grown one two t g = let h = g in cc

some_is : {X : Type 0} (o : Option plain.Tally) (f : plain.Tally → X) (d : X) → (elim o [ Some t ↦ true | None ↦ false ]) ≡ true → (elim o [ Some t ↦ f t | None ↦ d ]) ≡ f (elim o [ Some t ↦ t | None ↦ nothing ])
some_is (Some t) f d e = refl
some_is None f d e = cc

none_is : {X : Type 0} (o : Option plain.Tally) (f : plain.Tally → X) (d : X) → (elim o [ Some t ↦ true | None ↦ false ]) ≡ false → (elim o [ Some t ↦ f t | None ↦ d ]) ≡ d
none_is (Some t) f d e = cc
none_is None f d e = refl

pub pieces_joined : (place : ℕ) (kind : PlainStmtKind) (rest : PlainStmts) (lanes : ℕ) (before tail : plain.Tally) → is_primitive kind ≡ true
    → pieces (more_stmt (stmt place kind) rest) lanes before tail ≡ pieces rest lanes (before & primitive_tally kind) tail
pieces_joined place kind rest lanes before tail e = some_is (primitive kind) (λ t. pieces rest lanes (before & t) tail) _ e

pub pieces_ended : (place : ℕ) (kind : PlainStmtKind) (rest : PlainStmts) (lanes : ℕ) (before tail : plain.Tally) → is_primitive kind ≡ false
    → pieces (more_stmt (stmt place kind) rest) lanes before tail ≡ a_run lanes before ∷ map (a_part lanes) (outside kind) ++ inner_pieces kind lanes ++ pieces rest lanes nothing tail
pieces_ended place kind rest lanes before tail e = none_is (primitive kind) (λ t. pieces rest lanes (before & t) tail) _ e

pub stages_joined : (place : ℕ) (kind : PlainStmtKind) (rest : PlainStmts) (before tail : plain.Tally) → is_primitive kind ≡ true
    → stages (more_stmt (stmt place kind) rest) before tail ≡ stages rest (before & primitive_tally kind) tail
stages_joined place kind rest before tail e = some_is (primitive kind) (λ t. stages rest (before & t) tail) _ e

pub stages_ended : (place : ℕ) (kind : PlainStmtKind) (rest : PlainStmts) (before tail : plain.Tally) → is_primitive kind ≡ false
    → stages (more_stmt (stmt place kind) rest) before tail ≡ inner_stage before ++ stages_before (outside kind) ++ (uses_inside (outside kind) ++ inside kind) ∷ stages rest nothing tail
stages_ended place kind rest before tail e = none_is (primitive kind) (λ t. stages rest (before & t) tail) _ e

uses_are : (o : Option plain.Tally) → (elim o [ Some t ↦ uses_of t | None ↦ [] ]) ≡ uses_of (elim o [ Some t ↦ t | None ↦ nothing ])
uses_are (Some t) = refl
uses_are None = refl

pub primitive_uses_are : (kind : PlainStmtKind) → primitive_uses kind ≡ uses_of (primitive_tally kind)
primitive_uses_are kind = uses_are (primitive kind)

nothing_and : (t : plain.Tally) → nothing & t ≡ t
nothing_and t = simp zero-add

body_is : (o : Option plain.Tally) (rest : plain.Tally) → (elim o [ Some t ↦ t & rest | None ↦ rest ]) ≡ (elim o [ Some t ↦ t | None ↦ nothing ]) & rest
body_is (Some t) rest = refl
body_is None rest = sym (nothing_and rest)

pub next_of_body : (place : ℕ) (kind : PlainStmtKind) (rest : PlainStmts) → body_tally (more_stmt (stmt place kind) rest) ≡ primitive_tally kind & body_tally rest
next_of_body place kind rest = body_is (primitive kind) (body_tally rest)
