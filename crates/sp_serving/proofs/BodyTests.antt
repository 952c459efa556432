-- What the test of a body tells of the memory, where that alone has a scheme.
use Rattle.std.proofs.Common.{◌≡◌, ℕ, ◌+◌, ◌<◌, true, false, List, length, Option, Some, None, refl, sym, ap, ◌∙◌, subst, ⊎_elim}
use Rattle.std.proofs.lemmas.Bool.{and_parts, and_from, eqb-true, eq-eqb, false≢true, cases_eq}
use Rattle.std.specs.List.{list_all}
use Rattle.std.specs.Prelude.{◌&&◌, not, is_some}
use Rattle.sp_bank.specs.Banking.{Banking}
use Rattle.sp_core.specs.Declarations.{mem}
use Rattle.sp_core.specs.Elements.{numbers_below}
use Rattle.sp_core.specs.Forms.{PlainForms, form_at}
use Rattle.sp_core.specs.PlainCore.{PlainOp, PlainCore}
use Rattle.sp_plan.specs.Groups.{is_one_group, forms_by, rank_of, known_forms, AreKeptApart, kind_at, share_banks, is_grouped, are_grouped, AreSeparated}
use Rattle.sp_plan.specs.Orders.{op_at}
use Rattle.sp_plan.specs.Ports.{is_one_port, is_one_mem, is_in_banks, share_port, scheme_at, is_serial}
use Rattle.sp_schemes.proofs.Bodies.{all_below, below_all, or_given, given_or}
use Rattle.sp_schemes.proofs.Ports.{only_here, only_there}
use Rattle.sp_schemes.specs.Chosen.{only}
use Rattle.sp_serving.proofs.ApartTests.{kept_group, kept_apart, kept_from}
use Rattle.sp_serving.specs.Apart.{are_kept}
use Rattle.sp_serving.specs.Served.{known, is_pair_kept, is_access_kept, is_body_kept}

-- the only memory with a scheme
only_mem : (m : ℕ) (b : Banking) (x : Option ℕ) → not (is_serial (only m b) x) ≡ true → x ≡ Some m
only_mem m b None e = absurd (false≢true e)
only_mem m b (Some r) e = ⊎_elim (λ same. ap Some same) (λ ne. absurd (false≢true (ap (λ x. not (not (is_some x))) (sym (only_there m r b ne)) ∙ e))) (cases_eq r m)

one_mem_is : (x y : Option ℕ) → is_one_mem x y ≡ true → x ≡ y
one_mem_is (Some a) (Some c) e = ap Some (eqb-true a c e)
one_mem_is (Some a) None e = absurd (false≢true e)
one_mem_is None y e = absurd (false≢true e)

same_mem : (m : ℕ) (x : Option ℕ) → x ≡ Some m → is_one_mem x (Some m) ≡ true
same_mem m x e = ap (λ y. is_one_mem y (Some m)) e ∙ eq-eqb m m refl

-- two that share a port name one memory
port_mem : (core : PlainCore) (a c : PlainOp) → share_port core a c ≡ true → a.mem ≡ c.mem
port_mem core a c e =
    one_mem_is a.mem c.mem
    (and_parts (is_one_port a.kind c.kind) (is_one_mem a.mem c.mem)
    (and_parts (is_one_port a.kind c.kind && is_one_mem a.mem c.mem) (is_in_banks core a.mem) e).0).1

module _ (core : PlainCore) (forms : PlainForms) (m : ℕ) (b : Banking) where
  record Share (a c : PlainOp) : Type 0 where
    port : share_port core a c ≡ true
    first : a.mem ≡ Some m
    second : c.mem ≡ Some m

  share_from : (a c : PlainOp) → (share_port core a c && not (is_serial (only m b) a.mem)) ≡ true → Share a c
  share_from a c e =
      let p = and_parts (share_port core a c) (not (is_serial (only m b) a.mem)) e in
      let f = only_mem m b a.mem p.1 in
      record { port = p.0; first = f; second = sym (port_mem core a c p.0) ∙ f }

  share_to : (a c : PlainOp) → share_port core a c ≡ true → c.mem ≡ Some m → (share_port core a c && not (is_serial (only m b) a.mem)) ≡ true
  share_to a c e n =
      and_from (share_port core a c) (not (is_serial (only m b) a.mem)) e
      (ap (λ x. not (is_serial (only m b) x)) (port_mem core a c e ∙ n) ∙ ap (λ x. not (not (is_some x))) (only_here m b))

  -- the forms of one that names the memory
  known_is : (n : ℕ) (op : PlainOp) → op.mem ≡ Some m → known_forms core forms n op ≡ known core forms m b n
  known_is n op e = ap (λ x. forms_by core forms (rank_of core forms x) (form_at core forms n)) e

  module _ (n : ℕ) (ops : List PlainOp) where
    abbrev at : ℕ → PlainOp
    at i = op_at core ops i

    abbrev IsKept : (j i : ℕ) → Type 0
    IsKept j i = are_kept b (mem core m).kind (known core forms m b (n + i)) (known core forms m b (n + j)) ≡ true

    module _ (h : is_body_kept core forms m b n ops ≡ true) where
      pair_kept : (j i : ℕ) → j < length ops → i < j → Share (at i) (at j) → IsKept j i
      pair_kept j i l k s =
          or_given (share_port core (at i) (at j)) (are_kept b (mem core m).kind (known core forms m b (n + i)) (known core forms m b (n + j)))
          (all_below (is_pair_kept core forms m b n ops j) j
          (or_given (is_one_mem (at j).mem (Some m)) (list_all (is_pair_kept core forms m b n ops j) (numbers_below j))
          (all_below (is_access_kept core forms m b n ops) (length ops) h j l)
          (same_mem m (at j).mem s.second)) i k)
          s.port

    module _ (block : 0 < b.block) (banks : 0 < b.banks) where
      pub body_grouped : is_body_kept core forms m b n ops ≡ true → are_grouped core forms (only m b) n ops ≡ true
      body_grouped h =
          below_all (λ j. list_all (is_grouped core forms (only m b) n ops j) (numbers_below j)) (length ops) (λ j l.
          below_all (is_grouped core forms (only m b) n ops j) j (λ i k.
          given_or (share_banks core forms (only m b) ops i j) (is_one_group (known_forms core forms (n + i) (at i)) (known_forms core forms (n + j) (at j))) (λ e.
          let s = share_from (at i) (at j) e in
          ap (λ x. is_one_group x (known_forms core forms (n + j) (at j))) (known_is (n + i) (at i) s.first)
          ∙ ap (is_one_group (known core forms m b (n + i))) (known_is (n + j) (at j) s.second)
          ∙ kept_group b block banks (mem core m).kind (known core forms m b (n + i)) (known core forms m b (n + j)) (pair_kept h j i l k s))))

      pub body_separated : is_body_kept core forms m b n ops ≡ true → AreSeparated core forms (only m b) n ops
      body_separated h j i l k e =
          let s = share_from (at i) (at j) e in
          let f = known_forms core forms (n + i) (at i) in
          let g = known_forms core forms (n + j) (at j) in
          subst (λ x. AreKeptApart (kind_at core forms x) (scheme_at (only m b) x) f g) (sym s.first)
          (subst (λ x. AreKeptApart (mem core m).kind x f g) (sym (only_here m b))
          (subst (λ x. AreKeptApart (mem core m).kind (Some b) x g) (sym (known_is (n + i) (at i) s.first))
          (subst (λ x. AreKeptApart (mem core m).kind (Some b) (known core forms m b (n + i)) x) (sym (known_is (n + j) (at j) s.second))
          (kept_apart b block banks (mem core m).kind (known core forms m b (n + i)) (known core forms m b (n + j)) (pair_kept h j i l k s)))))

      module _ (grouped : are_grouped core forms (only m b) n ops ≡ true) (separated : AreSeparated core forms (only m b) n ops) where
        pair_from : (j i : ℕ) → j < length ops → i < j → share_port core (at i) (at j) ≡ true → (at j).mem ≡ Some m → IsKept j i
        pair_from j i l k e second =
            let s = share_to (at i) (at j) e second in
            let first = port_mem core (at i) (at j) e ∙ second in
            let f = known_forms core forms (n + i) (at i) in
            let g = known_forms core forms (n + j) (at j) in
            kept_from b block banks (mem core m).kind (known core forms m b (n + i)) (known core forms m b (n + j))
            (sym (ap (λ x. is_one_group x g) (known_is (n + i) (at i) first) ∙ ap (is_one_group (known core forms m b (n + i))) (known_is (n + j) (at j) second))
            ∙ or_given (share_banks core forms (only m b) ops i j) (is_one_group f g)
            (all_below (is_grouped core forms (only m b) n ops j) j (all_below (λ q. list_all (is_grouped core forms (only m b) n ops q) (numbers_below q)) (length ops) grouped j l) i k) s)
            (subst (λ x. AreKeptApart (mem core m).kind (Some b) (known core forms m b (n + i)) x) (known_is (n + j) (at j) second)
            (subst (λ x. AreKeptApart (mem core m).kind (Some b) x g) (known_is (n + i) (at i) first)
            (subst (λ x. AreKeptApart (mem core m).kind x f g) (only_here m b)
            (subst (λ x. AreKeptApart (kind_at core forms x) (scheme_at (only m b) x) f g) first (separated j i l k s)))))

        pub body_from : is_body_kept core forms m b n ops ≡ true
        body_from =
            below_all (is_access_kept core forms m b n ops) (length ops) (λ j l.
            given_or (is_one_mem (at j).mem (Some m)) (list_all (is_pair_kept core forms m b n ops j) (numbers_below j)) (λ names.
            below_all (is_pair_kept core forms m b n ops j) j (λ i k.
            given_or (share_port core (at i) (at j)) (are_kept b (mem core m).kind (known core forms m b (n + i)) (known core forms m b (n + j))) (λ e.
            pair_from j i l k e (one_mem_is (at j).mem (Some m) names)))))
