-- A program's tree declares what the program does.
use Rattle.std.proofs.Common.{◌≡◌, ℕ, List, [], ◌∷◌, ◌++◌, map, length, slice_index_or, Contains, Option, Some, IfSome, refl, sym, ap, ap₂, subst, ◌∙◌, arith}
use Rattle.std.proofs.lemmas.List.{map-append}
use Rattle.std.proofs.lemmas.List.Elements.{Contains-append_left, Contains-append_right}
use Rattle.sp_words.specs.declared.kind.Kind.{Kind}
use Rattle.sp_words.specs.declared.kind.Kind.TheVariants.{Reg, Sram, Fifo, LineBuf}
use Rattle.sp_words.specs.declared.types.Ty.{Ty}
use Rattle.sp_words.specs.Words.{IsWord}
use Rattle.sp_reader.specs.declared.syntax.expression.SynTy.{SynTy}
use Rattle.sp_reader.specs.PlainTree as tree
use Rattle.sp_reader.specs.PlainStatement as tree_of
use Rattle.sp_tree.specs.Declarations.{IsDeclaration, HasRank, HasStart}
use Rattle.sp_tree.specs.PlainProgram.{PlainMem, PlainProgram}
use Rattle.sp_tree.specs.PlainStatement as program
use Rattle.sp_tree.specs.Structure.{mems_declared, mems_in, vals_declared, vals_in, counters_declared, counters_in, counter_numbers}
use Rattle.sp_tree.specs.Typing.{mem_at}
use Rattle.sp_printer.specs.Names.{names_in}
use Rattle.sp_printed.specs.Trees.{IsTypeTree}
use Rattle.sp_printed.specs.LoopTrees.{AreBindTrees}
use Rattle.sp_printed.specs.StatementTrees.{IsStartTree, IsDeclareTree, IsStmtTree, IsBodyTree}
use Rattle.sp_types.specs.Types.{type_of}
use Rattle.sp_typed.specs.Declarations as typed
use Rattle.sp_typed.specs.Declarations.{start_word, texts}
use Rattle.sp_typed.specs.Expressions.{known, word_if}
use Rattle.sp_retyped.specs.BareMems.{bare_mem}
use Rattle.sp_retyped.proofs.Values.{type_is, literal_is, truth_is}

-- ---- memories

pub known_is : {ty : Ty} {t : SynTy} → IsTypeTree ty t → known (type_of t) ≡ ty
known_is h = ap known (type_is h)

start_is : {ty : Ty} {start : Option ℕ} {l : Option tree.PlainLit} → IsStartTree ty start l → IfSome start (λ w. IsWord ty w) → start_word ty l ≡ start
start_is IsStartTree.none h = refl
start_is (IsStartTree.number {t = t} {w = w} {d = d} e l) h = ap (λ o. Some (word_if o)) (literal_is t w d h l)
start_is (IsStartTree.typed_number {t = t} {w = w} {d = d} e l ty) h = ap (λ o. Some (word_if o)) (literal_is t w d h l)
start_is (IsStartTree.truth {w = w}) h = ap (λ n. Some n) (truth_is w h)

-- a memory by its parts
abbrev made : List ℕ → Kind → Ty → List ℕ → Option ℕ → PlainMem
made name kind ty dims start = record { name = name; kind = kind; ty = ty; dims = dims; start = start; place = 0 }

pub same_parts : {a b : List ℕ} {k l : Kind} {t u : Ty} {ds es : List ℕ} {s r : Option ℕ} → a ≡ b → k ≡ l → t ≡ u → ds ≡ es → s ≡ r → made a k t ds s ≡ made b l u es r
same_parts a k t d s = λ i. made (a i) (k i) (t i) (d i) (s i)

pub no_dims : (dims : List ℕ) → length dims ≡ 0 → [] ≡ dims
no_dims [] e = refl
no_dims (d ∷ dims) e = absurd (omega (arith, e))

pub rank_at : (m : PlainMem) (k : Kind) → IsDeclaration m → m.kind ≡ k → HasRank k (length m.dims)
rank_at m k d e = subst (λ x. HasRank x (length m.dims)) e d.rank

pub start_at : (m : PlainMem) (k : Kind) → IsDeclaration m → m.kind ≡ k → HasStart m k m.start
start_at m k d e = subst (λ x. HasStart m x m.start) e d.start

declare_back : {m : PlainMem} {x : tree_of.PlainStmtKind} (place : ℕ) → IsDeclareTree m x → IsDeclaration m → map bare_mem (typed.mems_in place x) ≡ bare_mem m ∷ []
declare_back {m} place (IsDeclareTree.a_reg {i = i} {t = t} {start = start} k text ty st) d =
    let type = known_is ty in
    let start_same : start_word (known (type_of t)) start ≡ m.start = ap (λ x. start_word x start) type ∙ start_is st (start_at m Reg d k) in
    let same = same_parts text (sym k) type (no_dims m.dims (rank_at m Reg d k)) start_same in
    λ i. same i ∷ []
declare_back {m} place (IsDeclareTree.an_sram k text ty) d = let same = same_parts text (sym k) (known_is ty) refl (sym (start_at m Sram d k)) in λ i. same i ∷ []
declare_back {m} place (IsDeclareTree.a_fifo k text ty dims) d = let same = same_parts text (sym k) (known_is ty) (sym dims) (sym (start_at m Fifo d k)) in λ i. same i ∷ []
declare_back {m} place (IsDeclareTree.a_line k text ty dims) d = let same = same_parts text (sym k) (known_is ty) (sym dims) (sym (start_at m LineBuf d k)) in λ i. same i ∷ []

declare_vals : {m : PlainMem} {x : tree_of.PlainStmtKind} → IsDeclareTree m x → typed.vals_in x ≡ []
declare_vals (IsDeclareTree.a_reg k text ty st) = refl
declare_vals (IsDeclareTree.an_sram k text ty) = refl
declare_vals (IsDeclareTree.a_fifo k text ty dims) = refl
declare_vals (IsDeclareTree.a_line k text ty dims) = refl

declare_counters : {m : PlainMem} {x : tree_of.PlainStmtKind} → IsDeclareTree m x → typed.counters_in x ≡ []
declare_counters (IsDeclareTree.a_reg k text ty st) = refl
declare_counters (IsDeclareTree.an_sram k text ty) = refl
declare_counters (IsDeclareTree.a_fifo k text ty dims) = refl
declare_counters (IsDeclareTree.a_line k text ty dims) = refl

-- two lists that are mapped and joined
pub joined : {A B C : Type 0} (f : A → C) (g : B → C) (ks ls : List A) (ms ns : List B) → map f ks ≡ map g ms → map f ls ≡ map g ns → map f (ks ++ ls) ≡ map g (ms ++ ns)
joined f g ks ls ms ns e h = map-append f ks ls ∙ ap₂ (λ x y. x ++ y) e h ∙ sym (map-append g ms ns)

alike : {A C : Type 0} (g : A → C) (ks ls : List C) (ms ns : List A) → ks ≡ map g ms → ls ≡ map g ns → ks ++ ls ≡ map g (ms ++ ns)
alike g ks ls ms ns e h = ap₂ (λ x y. x ++ y) e h ∙ sym (map-append g ms ns)

module _ (p : PlainProgram) where
  abbrev mem_is : ℕ → PlainMem
  mem_is m = bare_mem (mem_at p m)

  abbrev val_is : ℕ → List ℕ
  val_is v = slice_index_or p.vals v []

  abbrev counter_is : ℕ → List ℕ
  counter_is c = slice_index_or p.counters c []

  binds_back : {counters : List program.PlainCounter} {binds : List tree.PlainIdent} → AreBindTrees (names_in p) counters binds → texts binds ≡ map counter_is (counter_numbers counters)
  binds_back AreBindTrees.no_binds = refl
  binds_back (AreBindTrees.more_binds text rest) = let more = binds_back rest in λ i. text i ∷ more i

  -- memories that are declared right
  abbrev pub Right : List ℕ → Type 0
  Right ms = (m : ℕ) → Contains ms m → IsDeclaration (mem_at p m)

  left : (a b : List ℕ) → Right (a ++ b) → Right a
  left a b h m at = h m (Contains-append_left a b m at)

  right : (a b : List ℕ) → Right (a ++ b) → Right b
  right a b h m at = h m (Contains-append_right a b m at)

  mutual
    pub mems_back : {body : program.PlainStmts} {ss : tree_of.PlainStmts} → IsBodyTree (names_in p) body ss → Right (mems_declared body) → map bare_mem (typed.mems_declared ss) ≡ map mem_is (mems_declared body)
    mems_back IsBodyTree.empty h = refl
    mems_back (IsBodyTree.more {at = at} {s = s} {x = x} {rest = rest} {all = all} t ts) h =
        joined bare_mem mem_is (typed.mems_in at x) (typed.mems_declared all) (mems_in s) (mems_declared rest) (stmt_mems at t (left (mems_in s) (mems_declared rest) h)) (mems_back ts (right (mems_in s) (mems_declared rest) h))

    pub stmt_mems : {s : program.PlainStmtKind} {x : tree_of.PlainStmtKind} (place : ℕ) → IsStmtTree (names_in p) s x → Right (mems_in s) → map bare_mem (typed.mems_in place x) ≡ map mem_is (mems_in s)
    stmt_mems place (IsStmtTree.declared {m = m} t) h = declare_back place t (h m (0, omega arith, refl))
    stmt_mems place (IsStmtTree.bound a b) h = refl
    stmt_mems place (IsStmtTree.reg_set a b) h = refl
    stmt_mems place (IsStmtTree.out_set a b) h = refl
    stmt_mems place (IsStmtTree.sram_set a b c) h = refl
    stmt_mems place (IsStmtTree.put a b) h = refl
    stmt_mems place (IsStmtTree.sram_loaded a b c) h = refl
    stmt_mems place (IsStmtTree.line_loaded a b c) h = refl
    stmt_mems place (IsStmtTree.stored a b c) h = refl
    stmt_mems place (IsStmtTree.gathered a b c d) h = refl
    stmt_mems place (IsStmtTree.scattered a b c d) h = refl
    stmt_mems place (IsStmtTree.blocked t) h = mems_back t h
    stmt_mems place (IsStmtTree.looped a t) h = mems_back t h
    stmt_mems place (IsStmtTree.reduced a b t c d) h = mems_back t h
    stmt_mems place (IsStmtTree.folded a b t c d) h = mems_back t h
    stmt_mems place (IsStmtTree.mem_reduced a b t c d) h = mems_back t h
    stmt_mems place (IsStmtTree.machine a b c d t e f) h = mems_back t h
    stmt_mems place (IsStmtTree.branched {first = first} {second = second} {ss = ss} {us = us} a t u) h =
        joined bare_mem mem_is (typed.mems_declared ss) (typed.mems_declared us) (mems_declared first) (mems_declared second) (mems_back t (left (mems_declared first) (mems_declared second) h)) (mems_back u (right (mems_declared first) (mems_declared second) h))

  mutual
    pub vals_back : {body : program.PlainStmts} {ss : tree_of.PlainStmts} → IsBodyTree (names_in p) body ss → typed.vals_declared ss ≡ map val_is (vals_declared body)
    vals_back IsBodyTree.empty = refl
    vals_back (IsBodyTree.more {s = s} {x = x} {rest = rest} {all = all} t ts) = alike val_is (typed.vals_in x) (typed.vals_declared all) (vals_in s) (vals_declared rest) (stmt_vals t) (vals_back ts)

    pub stmt_vals : {s : program.PlainStmtKind} {x : tree_of.PlainStmtKind} → IsStmtTree (names_in p) s x → typed.vals_in x ≡ map val_is (vals_in s)
    stmt_vals (IsStmtTree.declared t) = declare_vals t
    stmt_vals (IsStmtTree.bound text b) = λ i. text i ∷ []
    stmt_vals (IsStmtTree.reg_set a b) = refl
    stmt_vals (IsStmtTree.out_set a b) = refl
    stmt_vals (IsStmtTree.sram_set a b c) = refl
    stmt_vals (IsStmtTree.put a b) = refl
    stmt_vals (IsStmtTree.sram_loaded a b c) = refl
    stmt_vals (IsStmtTree.line_loaded a b c) = refl
    stmt_vals (IsStmtTree.stored a b c) = refl
    stmt_vals (IsStmtTree.gathered a b c d) = refl
    stmt_vals (IsStmtTree.scattered a b c d) = refl
    stmt_vals (IsStmtTree.blocked t) = vals_back t
    stmt_vals (IsStmtTree.looped a t) = vals_back t
    stmt_vals (IsStmtTree.reduced a b t c d) = vals_back t
    stmt_vals (IsStmtTree.folded a b t c d) = vals_back t
    stmt_vals (IsStmtTree.mem_reduced a b t c d) = vals_back t
    stmt_vals (IsStmtTree.machine {state = state} {last = last} {body = body} {j = j} {l = l} {ss = ss} a first c second t third f) =
        let inner = alike val_is (typed.vals_declared ss) (l.text ∷ []) (vals_declared body) (last ∷ []) (vals_back t) (λ i. third i ∷ []) in
        λ i. first i ∷ second i ∷ inner i
    stmt_vals (IsStmtTree.branched {first = first} {second = second} {ss = ss} {us = us} a t u) = alike val_is (typed.vals_declared ss) (typed.vals_declared us) (vals_declared first) (vals_declared second) (vals_back t) (vals_back u)

  mutual
    pub counters_back : {body : program.PlainStmts} {ss : tree_of.PlainStmts} → IsBodyTree (names_in p) body ss → typed.counters_declared ss ≡ map counter_is (counters_declared body)
    counters_back IsBodyTree.empty = refl
    counters_back (IsBodyTree.more {s = s} {x = x} {rest = rest} {all = all} t ts) = alike counter_is (typed.counters_in x) (typed.counters_declared all) (counters_in s) (counters_declared rest) (stmt_counters t) (counters_back ts)

    pub stmt_counters : {s : program.PlainStmtKind} {x : tree_of.PlainStmtKind} → IsStmtTree (names_in p) s x → typed.counters_in x ≡ map counter_is (counters_in s)
    stmt_counters (IsStmtTree.declared t) = declare_counters t
    stmt_counters (IsStmtTree.bound text b) = refl
    stmt_counters (IsStmtTree.reg_set a b) = refl
    stmt_counters (IsStmtTree.out_set a b) = refl
    stmt_counters (IsStmtTree.sram_set a b c) = refl
    stmt_counters (IsStmtTree.put a b) = refl
    stmt_counters (IsStmtTree.sram_loaded a b c) = refl
    stmt_counters (IsStmtTree.line_loaded a b c) = refl
    stmt_counters (IsStmtTree.stored a b c) = refl
    stmt_counters (IsStmtTree.gathered a b c d) = refl
    stmt_counters (IsStmtTree.scattered a b c d) = refl
    stmt_counters (IsStmtTree.blocked t) = counters_back t
    stmt_counters (IsStmtTree.looped {counters = cs} {body = body} {h = h} {ss = ss} a t) = alike counter_is (texts h.binds) (typed.counters_declared ss) (counter_numbers cs) (counters_declared body) (binds_back a.binds_are) (counters_back t)
    stmt_counters (IsStmtTree.reduced {counters = cs} {body = body} {h = h} {ss = ss} a b t c d) = alike counter_is (texts h.binds) (typed.counters_declared ss) (counter_numbers cs) (counters_declared body) (binds_back a.binds_are) (counters_back t)
    stmt_counters (IsStmtTree.folded {counters = cs} {body = body} {h = h} {ss = ss} a b t c d) = alike counter_is (texts h.binds) (typed.counters_declared ss) (counter_numbers cs) (counters_declared body) (binds_back a.binds_are) (counters_back t)
    stmt_counters (IsStmtTree.mem_reduced {counters = cs} {body = body} {h = h} {ss = ss} a b t c d) = alike counter_is (texts h.binds) (typed.counters_declared ss) (counter_numbers cs) (counters_declared body) (binds_back a.binds_are) (counters_back t)
    stmt_counters (IsStmtTree.machine a first c second t third f) = counters_back t
    stmt_counters (IsStmtTree.branched {first = first} {second = second} {ss = ss} {us = us} a t u) = alike counter_is (typed.counters_declared ss) (typed.counters_declared us) (counters_declared first) (counters_declared second) (counters_back t) (counters_back u)
