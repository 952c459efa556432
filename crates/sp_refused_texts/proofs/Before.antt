-- What stands before a token of a text goes on to a text in the grammar where the tokens before it go on.
use Rattle.std.proofs.Common.{◌≡◌, ◌∙◌, ◌⊎◌, inl, inr, ℕ, ◌≤◌, ◌<◌, ◌&&◌, Bool, true, false, List, [], ◌∷◌, ◌++◌, length, take, drop, append_assoc, refl, sym, ap, subst, arith}
use Rattle.std.specs.Str.{IsUtf8}
use Rattle.std.proofs.lemmas.List.{take-append-drop}
use Rattle.sp_reader.specs.declared.scan.Scanned.{Scanned}
use Rattle.sp_reader.specs.declared.token.Token.{Token}
use Rattle.sp_reader.specs.declared.token.TokenKind.{TokenKind}
use Rattle.sp_reader.specs.declared.token.TokenKind.TheVariants as k
use Rattle.sp_reader.specs.Limits.{place_in}
use Rattle.sp_reader.specs.PlainStatement.{PlainSyntax}
use Rattle.sp_reader.specs.Steps.{Text}
use Rattle.sp_reader.specs.Tokens.{scanned, separated, tokens_of, inserts, may_begin, may_end}
use Rattle.sp_grammar.specs.Statements.{IsProgram}
use Rattle.sp_refusals.specs.Texts.{GoOn}
use Rattle.sp_refusals.proofs.TextRefusals.{take_take}
use Rattle.sp_refused_texts.specs.Laws.{GoesOn, end_of, IsWrittenAt, GoesOnBefore}
use Rattle.sp_refused_texts.proofs.Fronts.{is_written}
use Rattle.sp_refused_texts.proofs.Written.{written_left, program_written}
use Rattle.sp_refused_texts.proofs.Utf8.{cut_utf8}
use Rattle.sp_refused_texts.proofs.Order.{AreOrdered, scanned_ordered, real_some}
use Rattle.sp_refused_texts.proofs.Cuts.{AreReal, heads}
use Rattle.sp_refused_texts.proofs.Parts.{kind_after, open_after, semi, first_place, AreFirst, IsParted, parted, real_found, last_end, end_found, end_last, tokens_end, last_within, last_upto, ordered_at, split_at, same_split}
use Rattle.sp_refused_texts.proofs.Goes.{NoneBefore, goes, cut_length, found_behind, found_before}

-- a token before which a line end may insert a `;` stands in a rule
begins_written : (kind : TokenKind) → may_begin kind ≡ true → is_written kind ≡ true
begins_written k.Other e = absurd (cc)
begins_written k.End e = absurd (cc)
begins_written _ e = refl

begins_first : (a b c d : Bool) → (a && b && c && d) ≡ true → (a ≡ true) × (c ≡ true)
begins_first true true true d e = (refl, refl)
begins_first true true false d e = absurd (cc)
begins_first true false c d e = absurd (cc)
begins_first false b c d e = absurd (cc)

-- where a `;` is inserted before a token, a line end stands before it, and it may begin something
inserted : (before : TokenKind) (brackets : List TokenKind) (s : Scanned) → inserts before brackets s ≡ true → (s.breaks ≡ true) × (may_begin s.token.kind ≡ true)
inserted before brackets s e = begins_first s.breaks (may_end before) (may_begin s.token.kind) _ e

module _ (source : Text) where
  pub ordered : (found back : List Scanned) → scanned source ≡ found ++ back → AreOrdered (length source) 0 (found ++ back)
  ordered found back e = subst (AreOrdered (length source) 0) e (scanned_ordered (length source) 0 false source (length source) (omega arith))

  -- the first of the tokens, with what is behind them in a text that goes on
  module _ (valid : IsUtf8 source) (found back : List Scanned) (whole : scanned source ≡ found ++ back) (real : AreReal found) (more : Text) (rest : List Token) (tree : PlainSyntax) (is : IsProgram (source ++ more) (separated k.End [] found ++ rest) tree) where
    beyond : ℕ → Text
    beyond n = drop n source ++ more

    again : (n : ℕ) → IsProgram (take n source ++ beyond n) (separated k.End [] found ++ rest) tree
    unfolding beyond
    again n = subst (λ text. IsProgram text (separated k.End [] found ++ rest) tree) (ap (λ x. x ++ more) (sym (take-append-drop n source)) ∙ append_assoc (take n source) (drop n source) more) is

    goes_behind : GoesOn (take (last_end 0 found) source)
    goes_behind =
        let few = last_within (length source) 0 found back (omega arith) (ordered found back whole) in
        let many = cut_length (last_end 0 found) source few in
        let cut = found_behind source found back whole (ordered found back whole) real in
        goes (take (last_end 0 found) source) found false cut.0 (beyond (last_end 0 found)) rest tree (cut_utf8 source (last_end 0 found) valid few cut.1)
        (tokens_end (length source) 0 k.End [] found back (take (last_end 0 found) source) (ordered found back whole) (omega (arith, many))) (again (last_end 0 found)) (inl refl)

    goes_upto : (s : Scanned) (behind : List Scanned) → back ≡ s ∷ behind → s.token.at < s.token.end → (s.breaks ≡ false) ⊎ NoneBefore rest → GoesOn (take s.token.at source)
    goes_upto s behind e some first =
        let one : scanned source ≡ found ++ s ∷ behind = whole ∙ ap (λ x. found ++ x) e in
        let o = ordered found (s ∷ behind) one in
        let at = ordered_at (length source) 0 found s behind o in
        let few : s.token.at ≤ length source = (let high = at.1.1 in omega (arith, high, some)) in
        let many = cut_length s.token.at source few in
        let upto = last_upto (length source) 0 found s behind o in
        let cut = found_before source found s behind one real some in
        goes (take s.token.at source) found s.breaks cut.0 (beyond s.token.at) rest tree (cut_utf8 source s.token.at valid few cut.1)
        (tokens_end (length source) 0 k.End [] found (s ∷ behind) (take s.token.at source) o (omega (arith, many, upto))) (again s.token.at) first

  -- what is written at the place of the first of the others is that first one
  pub at_place : (place : ℕ) (found back : List Scanned) → scanned source ≡ found ++ back → place ≡ first_place source back → (s : Scanned) → IsWrittenAt source place s → (behind : List Scanned) × (back ≡ s ∷ behind)
  at_place place found back whole first s w =
      let c = split_at (scanned source) s w.one in
      (c.1, (same_split source 0 found back c.0 c.1 s (sym whole ∙ c.2) (ordered found back whole) w.some (sym first ∙ sym w.begins)).1)

  module _ (valid : IsUtf8 source) (number : ℕ) (on : GoOn source (take number (tokens_of source))) (found back : List Scanned) (whole : scanned source ≡ found ++ back) (place : place_in source (tokens_of source) number ≡ first_place source back) where
    plainly : take number (tokens_of source) ≡ separated k.End [] found → GoesOnBefore source number
    plainly e =
        let is : IsProgram (source ++ on.0) (separated k.End [] found ++ on.1) on.2 = subst (λ ts. IsProgram (source ++ on.0) (ts ++ on.1) on.2) e on.3 in
        let real = real_found k.End [] found (written_left (separated k.End [] found) on.1 (program_written (source ++ on.0) is)) in
        record {
          behind = subst (λ n. GoesOn (take n source)) (sym (ap (end_of 0) e ∙ end_found 0 k.End [] found)) (goes_behind valid found back whole real on.0 on.1 on.2 is);
          up_to = λ s w flat. let h = at_place (place_in source (tokens_of source) number) found back whole place s w in goes_upto valid found back whole real on.0 on.1 on.2 is s h.0 h.1 w.some (inl flat);
        }

    behind_semi : (s : Scanned) (rest : List Scanned) → back ≡ s ∷ rest → inserts (kind_after k.End found) (open_after [] found) s ≡ true → take number (tokens_of source) ≡ separated k.End [] found ++ semi s ∷ [] → GoesOnBefore source number
    behind_semi s rest first ins e =
        let is : IsProgram (source ++ on.0) (separated k.End [] found ++ semi s ∷ on.1) on.2 =
        (subst (λ ts. IsProgram (source ++ on.0) ts on.2) (append_assoc (separated k.End [] found) (semi s ∷ []) on.1) (subst (λ ts. IsProgram (source ++ on.0) (ts ++ on.1) on.2) e on.3)) in
        let real = real_found k.End [] found (written_left (separated k.End [] found) (semi s ∷ on.1) (program_written (source ++ on.0) is)) in
        let begun = inserted (kind_after k.End found) (open_after [] found) s ins in
        let o = ordered_at (length source) 0 found s rest (ordered found (s ∷ rest) (whole ∙ ap (λ x. found ++ x) first)) in
        let some = real_some s rest o.1 (begins_written s.token.kind begun.1) in
        record {
          behind = subst (λ n. GoesOn (take n source)) (sym (ap (end_of 0) e ∙ end_last 0 (separated k.End [] found) (semi s))) (goes_upto valid found back whole real on.0 (semi s ∷ on.1) on.2 is s rest first some (inr refl));
          up_to = λ t w flat.
              let h = at_place (place_in source (tokens_of source) number) found back whole place t w in
              let same = (heads s t rest h.0 (sym first ∙ h.1)).0 in
              let both : true ≡ false = sym begun.0 ∙ ap (λ (x : Scanned). x.breaks) same ∙ flat in
              absurd (cc);
        }

  pub goes_before : IsUtf8 source → (number : ℕ) → number ≤ length (tokens_of source) → GoOn source (take number (tokens_of source)) → GoesOnBefore source number
  unfolding tokens_of
  goes_before valid number among on = by (parted source k.End [] (scanned source) number among)
    where
      by : IsParted source k.End [] (scanned source) number → GoesOnBefore source number
      by p = go p.first
        where
          go : AreFirst k.End [] p.found p.back (take number (separated k.End [] (scanned source))) → GoesOnBefore source number
          go (AreFirst.plain e) = plainly valid number on p.found p.back p.whole p.place e
          go (AreFirst.with_semi s rest is ins e) = behind_semi valid number on p.found p.back p.whole p.place s rest is ins e

  -- so it is before each token before
  pub goes_before_each : IsUtf8 source → (number : ℕ) → number ≤ length (tokens_of source) → GoOn source (take number (tokens_of source)) → (n : ℕ) → n ≤ number → GoesOnBefore source n
  goes_before_each valid number among on n le =
      let first : take n (take number (tokens_of source)) ≡ take n (tokens_of source) = take_take n number (tokens_of source) le in
      let parts : take n (tokens_of source) ++ drop n (take number (tokens_of source)) ≡ take number (tokens_of source) = ap (λ x. x ++ drop n (take number (tokens_of source))) (sym first) ∙ take-append-drop n (take number (tokens_of source)) in
      let whole : take n (tokens_of source) ++ (drop n (take number (tokens_of source)) ++ on.1) ≡ take number (tokens_of source) ++ on.1 = sym (append_assoc (take n (tokens_of source)) (drop n (take number (tokens_of source))) on.1) ∙ ap (λ x. x ++ on.1) parts in
      goes_before valid n (omega (arith, le, among)) (on.0, drop n (take number (tokens_of source)) ++ on.1, on.2, subst (λ ts. IsProgram (source ++ on.0) ts on.2) (sym whole) on.3)
