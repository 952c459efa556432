-- What no accumulator around is named by.
use Rattle.std.proofs.Common.{◌≡◌, ℕ, Bool, true, false, not, ◌==◌, eq-eqb, List, [], ◌∷◌, map, Contains, Option, Some, None, IsTrue, refl, sym, ap, ◌∙◌}
use Rattle.std.specs.List.{list_any}
use Rattle.std.specs.Str.{bytes_eq}
use Rattle.std.proofs.lemmas.Slice.Eq.{bytes_eq-Decides}
use Rattle.sp_words.specs.declared.types.Ty.{Ty}
use Rattle.sp_reader.specs.PlainTree as tree
use Rattle.sp_tree.specs.Footprint.{Names, AllName}
use Rattle.sp_tree.specs.PlainExpression as program
use Rattle.sp_tree.specs.PlainExpression.{PlainExpr, PlainExprs, type_of}
use Rattle.sp_tree.specs.PlainProgram.{PlainProgram}
use Rattle.sp_tree.specs.Typing.{Scope, Typed, IndicesTyped, mem_at, all_but}
use Rattle.sp_printer.specs.Names.{names_in}
use Rattle.sp_printed.specs.Trees.{IsTree, AreTrees}
use Rattle.sp_types.specs.Expressions.{at_type, expr_refusals, exprs_refusals}
use Rattle.sp_types.specs.Visible.{PlainSymbol, memory, value, counter, Visible, is_busy}
use Rattle.sp_typed.specs.Expressions.{number_if}
use Rattle.sp_typed.specs.Named.{Meant, Here, find}
use Rattle.sp_words.specs.Types.{int_type}
use Rattle.sp_retyped.specs.Shown.{Seen, is_free, is_still}
use Rattle.sp_retyped.proofs.Quiet.{quiet, all_quiet}
use Rattle.sp_retyped.proofs.Scopes.{one_more, at_first}
use Rattle.sp_unrefused.specs.Placed.{Placed}

other_bytes : (a b : List ℕ) → (a ≡ b → ⊥) → bytes_eq a b ≡ false
other_bytes a b h = go (bytes_eq a b) refl
  where
    go : (x : Bool) → bytes_eq a b ≡ x → x ≡ false
    go false e = refl
    go true e = absurd (h ((bytes_eq-Decides a b).0 e))

is_mem : Option Meant → Bool
is_mem (Some m) = is_memory m.symbol
  where
    is_memory : PlainSymbol → Bool
    is_memory (memory k t ds) = true
    is_memory (value t) = false
    is_memory counter = false
is_mem None = false

module _ (p : PlainProgram) where
  abbrev pub Spared : List ℕ → ℕ → Type 0
  Spared accs m = (a : ℕ) → Contains accs a → IsTrue (all_but p a m)

  -- an expression that names none of these
  abbrev pub Spares : List ℕ → PlainExpr → Type 0
  Spares accs e = (a : ℕ) → Contains accs a → Names (all_but p a) e

  none_busy : (accs : List ℕ) (name : List ℕ) → ((a : ℕ) → Contains accs a → (mem_at p a).name ≡ name → ⊥) → list_any (λ acc. bytes_eq acc name) (map (λ a. (mem_at p a).name) accs) ≡ false
  none_busy [] name h = refl
  none_busy (a ∷ accs) name h = rw (other_bytes (mem_at p a).name name (h a (at_first a accs)), none_busy accs name (λ b at. h b (one_more a accs b at))) refl

  module _ (scope : Scope) (here : Here) (seen : Visible) (accs : List ℕ) (h : Placed p scope here seen accs) where
    not_busy : (name : List ℕ) → ((a : ℕ) → Contains accs a → (mem_at p a).name ≡ name → ⊥) → is_busy seen name ≡ false
    unfolding is_busy
    not_busy name f = ap (λ l. list_any (λ acc. bytes_eq acc name) l) h.busy_is ∙ none_busy accs name f

    -- a memory that is none of the accumulators
    pub mem_free : (m : ℕ) → Contains scope.mems m → Spared accs m → IsTrue (is_free p seen m)
    mem_free m at spared = ap not (not_busy (mem_at p m).name (λ a there same. clash a m (spared a there) (ap number_if (sym (h.shown.mem a (h.acc_seen a there)) ∙ ap (find here.names) same ∙ h.shown.mem m at))))
      where
        clash : (a m : ℕ) → not (m == a) ≡ true → a ≡ m → ⊥
        clash a m other same = let bad : false ≡ true = sym (ap not (eq-eqb m a (sym same))) ∙ other in absurd (cc)

    other_symbol : (name : List ℕ) (s : PlainSymbol) (n : ℕ) → is_mem (Some (record { symbol = s; number = n })) ≡ false → find here.names name ≡ Some (record { symbol = s; number = n }) → is_busy seen name ≡ false
    unfolding is_mem
    other_symbol name s n none e = not_busy name (λ a there same.
        let bad : true ≡ false = ap is_mem (sym (h.shown.mem a (h.acc_seen a there)) ∙ ap (find here.names) same ∙ e) ∙ none in absurd (cc))

    pub as_seen : Seen p scope here seen
    unfolding is_mem
    as_seen = record {
      shown = h.shown;
      same = h.same;
      val_free = λ v ty at. other_symbol _ _ _ refl (h.shown.val v ty at);
      counter_free = λ c at. other_symbol _ _ _ refl (h.shown.counter_is c at);
    }

    mutual
      pub names_free : (e : PlainExpr) → Typed p scope e → Spares accs e → Names (is_free p seen) e
      names_free (program.expr place ty (program.literal w)) t s = tt
      names_free (program.expr place ty (program.counter c)) t s = tt
      names_free (program.expr place ty (program.value v)) t s = tt
      names_free (program.expr place ty (program.get_reg m)) t s = mem_free m t.seen s
      names_free (program.expr place ty (program.get_arg m)) t s = mem_free m t.seen s
      names_free (program.expr place ty (program.get_sram m indices)) t s = (mem_free m t.0.seen (λ a at. (s a at).0), all_free indices t.2 (λ a at. (s a at).1))
      names_free (program.expr place ty (program.get_line m row column)) t s = (mem_free m t.0.seen (λ a at. (s a at).0), names_free row t.1 (λ a at. (s a at).1), names_free column t.3 (λ a at. (s a at).2))
      names_free (program.expr place ty (program.deq m)) t s = mem_free m t.seen s
      names_free (program.expr place ty (program.one o e)) t s = names_free e t.0 s
      names_free (program.expr place ty (program.two o e f)) t s = (names_free e t.0 (λ a at. (s a at).0), names_free f t.1 (λ a at. (s a at).1))
      names_free (program.expr place ty (program.shift left e by)) t s = names_free e t.0 s
      names_free (program.expr place ty (program.mux c e f)) t s = (names_free c t.0 (λ a at. (s a at).0), names_free e t.2 (λ a at. (s a at).1), names_free f t.4 (λ a at. (s a at).2))
      names_free (program.expr place ty (program.cast e)) t s = names_free e t s

      pub all_free : (es : PlainExprs) → IndicesTyped p scope es → ((a : ℕ) → Contains accs a → AllName (all_but p a) es) → AllName (is_free p seen) es
      all_free program.no_expr t s = tt
      all_free (program.more_expr e rest) t s = (names_free e t.0 (λ a at. (s a at).0), all_free rest t.2 (λ a at. (s a at).1))

    -- an expression at its type
    pub right_at : {e : PlainExpr} {x : tree.PlainExpr} (want : Option Ty) (still : Bool) → IsTree (names_in p) e x → Typed p scope e → want ≡ Some (type_of e) → Spares accs e → (still ≡ true → Names (is_still p) e) → expr_refusals seen (at_type want still) x ≡ []
    right_at {e} want still t typed same s st = quiet p scope here seen as_seen t typed (at_type want still) (record { want = same; number = λ n. absurd (cc); free = names_free e typed s; still = st })

    pub rows_right : {es : PlainExprs} {xs : tree.PlainExprs} → AreTrees (names_in p) es xs → IndicesTyped p scope es → ((a : ℕ) → Contains accs a → AllName (all_but p a) es) → exprs_refusals seen (at_type (Some int_type) false) xs ≡ []
    rows_right {es} t typed s = all_quiet p scope here seen as_seen t typed (at_type (Some int_type) false) refl (λ n. absurd (cc)) (all_free es typed s) (λ n. absurd (cc))
