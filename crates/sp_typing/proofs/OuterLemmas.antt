-- The declarations before the block, and the beginning of the block.
use Rattle.std.proofs.Common.{◌≡◌, ℕ, ◌+◌, List, [], ◌∷◌, ◌++◌, map, None, refl, subst, inl, inr, arith}
use Rattle.std.specs.Prelude.{Contains, ◌⊎◌, slice_index_or}
use Rattle.std.proofs.lemmas.List.Elements.{Contains-append_left, Contains-append_cases}
use Rattle.sp_words.specs.declared.kind.Kind.TheVariants.{Dram, ArgIn, ArgOut}
use Rattle.sp_words.specs.declared.types.Ty.{Ty}
use Rattle.sp_reader.specs.PlainStatement.{PlainDecl, PlainDeclKind, arg_in, arg_out, dram}
use Rattle.sp_tree.specs.Invariant.{PortsFresh}
use Rattle.sp_tree.specs.PlainProgram.{PlainProgram}
use Rattle.sp_tree.specs.Typing.{Scope, visible, mem_at, with_mem}
use Rattle.sp_types.specs.Statements.{decls_refusals, declaration_refusals, with_ports, port, port_type}
use Rattle.sp_types.specs.Visible.{PlainSymbol, Visible, declare}
use Rattle.sp_typed.proofs.NoneLemmas.{both_none}
use Rattle.sp_typed.proofs.NumberLemmas.{places}
use Rattle.sp_typed.specs.Declarations.{port_mem, ports_declared, port_names}
use Rattle.sp_typed.specs.Named.{Here, find, given}
use Rattle.sp_typing.specs.Places.{Held, Place}
use Rattle.sp_typing.proofs.DeclareLemmas.{declared}
use Rattle.sp_typing.proofs.FindLemmas.{Found}
use Rattle.sp_typing.proofs.HeldLemmas.{held_left, held_tail}
use Rattle.sp_typing.proofs.PlaceLemmas.{Wider, stands_wider, first_or_rest, one_more, at_first}

-- the memories of a scope, with more of them one after the other
abbrev pub with_mems : Scope → List ℕ → Scope
with_mems scope [] = scope
with_mems scope (m ∷ rest) = with_mems (with_mem scope m) rest

pub record PortsRight (p : PlainProgram) (scope : Scope) (names : Found) (seen : Visible) (n : ℕ) (decls : List PlainDecl) : Type 0 where
  pub new : PortsFresh p scope (places n decls)
  pub next : Place p (with_mems scope (places n decls)) (port_names names n decls) (with_ports seen decls).names

abbrev here_at : Found → ℕ → Here
here_at names n = record { names = names; mems = n; vals = 0; counters = 0 }

port_right : (p : PlainProgram) (scope : Scope) (names : Found) (seen : Visible) (n : ℕ) (d : PlainDecl) (k : PlainDeclKind) → Place p scope names seen.names
    → Held p.mems n (port_mem d k ∷ []) → declaration_refusals seen d.name (port_type k) ≡ []
    → (PortsFresh p scope (n ∷ [])) × Place p (with_mem scope n) (given names d.name.text (port k) n) (declare seen d.name.text (port k)).names
port_right p scope names seen n d (arg_in ty) at held none =
    let r = declared p scope (here_at names n) seen at d.place d.name ArgIn ty [] None held none in
    ((r.new, tt), r.next)
port_right p scope names seen n d (arg_out ty) at held none =
    let r = declared p scope (here_at names n) seen at d.place d.name ArgOut ty [] None held none in
    ((r.new, tt), r.next)
port_right p scope names seen n d (dram ty dims) at held none =
    let r = declared p scope (here_at names n) seen at d.place d.name Dram ty dims None held none in
    ((r.new, tt), r.next)

pub ports_right : (p : PlainProgram) (scope : Scope) (names : Found) (seen : Visible) (n : ℕ) (decls : List PlainDecl) → Place p scope names seen.names
    → Held p.mems n (ports_declared decls) → decls_refusals seen decls ≡ [] → PortsRight p scope names seen n decls
ports_right p scope names seen n [] at held none = record { new = tt; next = at }
ports_right p scope names seen n (d ∷ decls) at held none =
    let f = both_none (declaration_refusals seen d.name (port_type d.kind)) (decls_refusals (declare seen d.name.text (port d.kind)) decls) none in
    let one = port_right p scope names seen n d d.kind at (held_left p.mems n (port_mem d d.kind ∷ []) (ports_declared decls) held) f.0 in
    let rest = ports_right p (with_mem scope n) (given names d.name.text (port d.kind) n) (declare seen d.name.text (port d.kind)) (n + 1) decls one.1
    (held_tail p.mems n (port_mem d d.kind) (ports_declared decls) held) f.1 in
    record { new = (one.0.0, rest.new); next = rest.next }

-- ---- the scope of the block

abbrev pub nothing : Scope
nothing = record { mems = []; vals = []; counters = [] }

abbrev pub block_scope : List ℕ → Scope
block_scope ms = record { mems = ms; vals = []; counters = [] }

none_in : {A B : Type 0} (x : A) → Contains [] x → B
none_in x h = absurd (let lt = h.1 in omega arith)

place_same : (p : PlainProgram) (scope other : Scope) (names : Found) (seen : List (List ℕ × PlainSymbol)) → Place p scope names seen → Wider scope other
    → ((name : List ℕ) → Contains (visible p other) name → Contains (visible p scope) name) → Place p other names seen
place_same p scope other names seen at w shows = record {
  agree = λ name m e. stands_wider p scope other m.symbol m.number w (at.agree name m e);
  same = at.same;
  shown = λ name h. at.shown name (shows name h);
  named = at.named;
}

-- the memories are those that were added, in another order
either : {A B C : Type 0} → A ⊎ B → (A → C) → (B → C) → C
either (inl a) f g = f a
either (inr b) f g = g b

added : (scope : Scope) (ms : List ℕ) (m : ℕ) → Contains (with_mems scope ms).mems m → Contains scope.mems m ⊎ Contains ms m
added scope [] m h = inl h
added scope (k ∷ ms) m h =
    either (added (with_mem scope k) ms m h)
    (λ f. either (first_or_rest k scope.mems m f) (λ e. inr (subst (λ x. Contains (k ∷ ms) x) e (at_first k ms))) (λ g. inl g))
    (λ f. inr (one_more k ms m f))

same_vals : (scope : Scope) (ms : List ℕ) → (with_mems scope ms).vals ≡ scope.vals
same_vals scope [] = refl
same_vals scope (m ∷ ms) = same_vals (with_mem scope m) ms

same_counters : (scope : Scope) (ms : List ℕ) → (with_mems scope ms).counters ≡ scope.counters
same_counters scope [] = refl
same_counters scope (m ∷ ms) = same_counters (with_mem scope m) ms

block_wider : (ms : List ℕ) → Wider (with_mems nothing ms) (block_scope ms)
block_wider ms = record {
  mems = λ m h. either (added nothing ms m h) (λ f. none_in m f) (λ f. f);
  vals = λ v h. none_in v (subst (λ l. Contains l v) (same_vals nothing ms) h);
  counters = λ c h. none_in c (subst (λ l. Contains l c) (same_counters nothing ms) h);
}

module _ (p : PlainProgram) where
  abbrev name_of : ℕ → List ℕ
  name_of m = (mem_at p m).name

  stays : (scope : Scope) (ms : List ℕ) (name : List ℕ) → Contains (map name_of scope.mems) name → Contains (map name_of (with_mems scope ms).mems) name
  stays scope [] name h = h
  stays scope (m ∷ ms) name h = stays (with_mem scope m) ms name (one_more (name_of m) (map name_of scope.mems) name h)

  comes : (scope : Scope) (ms : List ℕ) (name : List ℕ) → Contains (map name_of ms) name → Contains (map name_of (with_mems scope ms).mems) name
  comes scope [] name h = none_in name h
  comes scope (m ∷ ms) name h =
      either (first_or_rest (name_of m) (map name_of ms) name h)
      (λ e. stays (with_mem scope m) ms name (subst (λ x. Contains (name_of m ∷ map name_of scope.mems) x) e (at_first (name_of m) (map name_of scope.mems))))
      (λ f. comes (with_mem scope m) ms name f)

  block_shows : (ms : List ℕ) (name : List ℕ) → Contains (visible p (block_scope ms)) name → Contains (visible p (with_mems nothing ms)) name
  block_shows ms name h =
      let scope = with_mems nothing ms in
      let names = map name_of scope.mems in
      let vals = map (λ (v : ℕ × Ty). slice_index_or p.vals v.0 []) scope.vals in
      let counters = map (λ c. slice_index_or p.counters c []) scope.counters in
      either (Contains-append_cases (map name_of ms ++ []) [] name h)
      (λ f. either (Contains-append_cases (map name_of ms) [] name f)
      (λ g. Contains-append_left (names ++ vals) counters name (Contains-append_left names vals name (comes nothing ms name g)))
      (λ g. none_in name g))
      (λ f. none_in name f)

  pub at_beginning : (ms : List ℕ) (names : Found) (seen : List (List ℕ × PlainSymbol)) → Place p (with_mems nothing ms) names seen → Place p (block_scope ms) names seen
  at_beginning ms names seen at = place_same p (with_mems nothing ms) (block_scope ms) names seen at (block_wider ms) (block_shows ms)

  pub at_nothing : Place p nothing [] []
  unfolding find
  at_nothing = record {
    agree = λ name m e. absurd (cc);
    same = refl;
    shown = λ name h. none_in name h;
    named = λ name m e. absurd (cc);
  }
