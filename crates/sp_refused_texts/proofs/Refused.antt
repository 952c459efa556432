-- No text that begins with a refused token and what stands before it is in the grammar.
use Rattle.std.proofs.Common.{◌≡◌, ◌∙◌, ◌⊎◌, inl, inr, ℕ, zero, suc, ◌≤◌, ◌<◌, Bool, true, false, nat_lt, List, [], ◌∷◌, ◌++◌, length, take, drop, length-append, length-take, append_assoc, Err, Option, Some, None, refl, sym, ap, subst, arith, if◌then◌else◌}
use Rattle.std.specs.Prelude.{slice_index}
use Rattle.std.specs.List.{Contains}
use Rattle.std.proofs.lemmas.List.{append-nil, take-append-drop, take-append-le}
use Rattle.std.proofs.lemmas.List.Elements.{Contains-append_right}
use Rattle.sp_reader.specs.declared.error.ReadError.{ReadError}
use Rattle.sp_reader.specs.declared.error.ReadError.TheVariants.{NoParse, NotText}
use Rattle.sp_reader.specs.declared.limits.Limit.{Limit}
use Rattle.sp_reader.specs.declared.limits.Limit.TheVariants.{Deep, Wide}
use Rattle.sp_reader.specs.declared.scan.Scanned.{Scanned}
use Rattle.sp_reader.specs.declared.token.Token.{Token}
use Rattle.sp_reader.specs.declared.token.TokenKind.{TokenKind}
use Rattle.sp_reader.specs.declared.token.TokenKind.TheVariants as k
use Rattle.sp_reader.specs.Limits.{first_passed, place_in, refusal_of, fault_of, read_past, read_of}
use Rattle.sp_reader.specs.PlainStatement.{PlainSyntax}
use Rattle.sp_reader.specs.Steps.{Text, spelling_of}
use Rattle.sp_reader.specs.Tokens.{scanned, separated, tokens_of, inserts, opened, with_separator}
use Rattle.sp_grammar.specs.Statements.{IsProgram}
use Rattle.sp_refusals.specs.Laws.{EndWithin, SpellAlike, AreLike}
use Rattle.sp_refusals.specs.Texts.{GoOn, IsFirstRefused}
use Rattle.sp_refusals.proofs.TextRefusals.{refused_first, passed_first, passed_at}
use Rattle.sp_refused_texts.specs.Laws.{IsInGrammar, StandsApart, IsWrittenAt, GoesOnBefore, IsRefusedAt}
use Rattle.sp_refused_texts.proofs.Fronts.{is_written}
use Rattle.sp_refused_texts.proofs.Written.{written_left, program_written}
use Rattle.sp_refused_texts.proofs.Utf8.{utf8_of}
use Rattle.sp_refused_texts.proofs.Cuts.{AreReal, Found, cut_behind, heads}
use Rattle.sp_refused_texts.proofs.Parts.{kind_after, open_after, separated_on, semi, first_place, AreFirst, IsParted, parted, real_found, tokens_end, last_upto, ordered_at}
use Rattle.sp_refused_texts.proofs.Goes.{both_begin, cut_length}
use Rattle.sp_refused_texts.proofs.Before.{ordered, at_place, goes_before_each}

edge_low : (z : Text) → StandsApart z → slice_index z 0 ≤ 32
edge_low [] apart = omega arith
edge_low (b ∷ z) apart = grind arith

-- ---- tokens of two texts

like_take : (source other : Text) (n : ℕ) (ts us : List Token) → AreLike source other ts us → AreLike source other (take n ts) (take n us)
like_take source other zero ts us h = tt
like_take source other (suc n) [] [] h = tt
like_take source other (suc n) [] (u ∷ us) h = elim h [ ]
like_take source other (suc n) (t ∷ ts) [] h = elim h [ ]
like_take source other (suc n) (t ∷ ts) (u ∷ us) h = (h.0, like_take source other n ts us h.1)

like_behind : (source other : Text) (ts rest us : List Token) → SpellAlike source other ts → AreLike source other rest us → AreLike source other (ts ++ rest) (ts ++ us)
like_behind source other [] rest us h like = like
like_behind source other (t ∷ ts) rest us h like = ((refl, λ _. h.0), like_behind source other ts rest us h.1 like)

like_itself : (source : Text) (ts : List Token) → AreLike source source ts ts
like_itself source [] = tt
like_itself source (t ∷ ts) = ((refl, λ _. refl), like_itself source ts)

-- a token and the `;` before it, where another is like it
like_one : (source other : Text) (before : TokenKind) (brackets : List TokenKind) (s one : Scanned) → one.token.kind ≡ s.token.kind → one.breaks ≡ s.breaks → (s.token.kind ≡ k.Number → spelling_of source s.token ≡ spelling_of other one.token)
    → AreLike source other (separated before brackets (s ∷ [])) (separated before brackets (one ∷ []))
like_one source other before brackets s one kind breaks spells = rw same (go (inserts before brackets s))
  where
    same : inserts before brackets one ≡ inserts before brackets s
    same = rw (kind, breaks) refl

    go : (b : Bool) → AreLike source other ((if b then semi s ∷ s.token ∷ [] else s.token ∷ []) ++ []) ((if b then semi one ∷ one.token ∷ [] else one.token ∷ []) ++ [])
    go true = ((refl, λ bad. absurd (cc)), ((sym kind, spells), tt))
    go false = ((sym kind, spells), tt)

-- ---- with the refused token

-- the tokens up to the one of a number are among those up to a written one
reaches : (before : TokenKind) (brackets : List TokenKind) (found back : List Scanned) (s : Scanned) (ts : List Token) → AreFirst before brackets found back ts → (behind : List Scanned) → back ≡ s ∷ behind
    → suc (length ts) ≤ length (separated before brackets found ++ separated (kind_after before found) (open_after brackets found) (s ∷ []))
reaches before brackets found back s ts (AreFirst.plain e) behind is = go (inserts (kind_after before found) (open_after brackets found) s)
  where
    go : (b : Bool) → suc (length ts) ≤ length (separated before brackets found ++ ((if b then semi s ∷ s.token ∷ [] else s.token ∷ []) ++ []))
    go true = let l = length-append (separated before brackets found) (semi s ∷ s.token ∷ []) in let m = ap (λ (x : List Token). length x) e in omega (arith, l, m)
    go false = let l = length-append (separated before brackets found) (s.token ∷ []) in let m = ap (λ (x : List Token). length x) e in omega (arith, l, m)
reaches before brackets found back s ts (AreFirst.with_semi t rest first ins e) behind is = rw there two
  where
    there : inserts (kind_after before found) (open_after brackets found) s ≡ true
    there = subst (λ x. inserts (kind_after before found) (open_after brackets found) x ≡ true) (heads t s rest behind (sym first ∙ is)).0 ins

    two : suc (length ts) ≤ length (separated before brackets found ++ semi s ∷ s.token ∷ [])
    two =
        let l = length-append (separated before brackets found) (semi s ∷ s.token ∷ []) in
        let m = length-append (separated before brackets found) (semi t ∷ []) in
        let n = ap (λ (x : List Token). length x) e in
        omega (arith, l, m, n)

-- tokens that go on in the grammar stand in a rule
real_first : (source : Text) (found back : List Scanned) (ts : List Token) → AreFirst k.End [] found back ts → GoOn source ts → AreReal found
real_first source found back ts (AreFirst.plain e) on =
    real_found k.End [] found (written_left (separated k.End [] found) on.1 (program_written (source ++ on.0) (subst (λ xs. IsProgram (source ++ on.0) (xs ++ on.1) on.2) e on.3)))
real_first source found back ts (AreFirst.with_semi s rest first ins e) on =
    real_found k.End [] found (written_left (separated k.End [] found) (semi s ∷ []) (written_left (separated k.End [] found ++ semi s ∷ []) on.1 (program_written (source ++ on.0) (subst (λ xs. IsProgram (source ++ on.0) (xs ++ on.1) on.2) e on.3))))

module _ (source : Text) (number : ℕ) (among : number ≤ length (tokens_of source)) (first : IsFirstRefused source (tokens_of source) number) where
  -- of a text whose first written tokens are like those of this one up to the refused one
  refused_by : (other : Text) (ts us more rest : List Token) (tree : PlainSyntax) → tokens_of source ≡ ts ++ more → tokens_of other ≡ us ++ rest → suc number ≤ length ts → AreLike source other ts us → IsProgram other (tokens_of other) tree → ⊥
  refused_by other ts us more rest tree one two few like is =
      let total = ap (λ (x : List Token). length x) one in
      let sum = length-append ts more in
      let less : number < length (tokens_of source) = omega (arith, total, sum, few) in
      let same : take (suc number) (tokens_of source) ≡ take (suc number) ts = ap (take (suc number)) one ∙ take-append-le (suc number) ts more few in
      let whole : tokens_of other ≡ take (suc number) us ++ (drop (suc number) us ++ rest) =
      (two ∙ ap (λ x. x ++ rest) (sym (take-append-drop (suc number) us)) ∙ append_assoc (take (suc number) us) (drop (suc number) us) rest) in
      first.with_it other (take (suc number) us) (drop (suc number) us ++ rest) tree less (subst (λ x. AreLike source other x (take (suc number) us)) (sym same) (like_take source other (suc number) ts us like)) (subst (λ x. IsProgram other x tree) whole is)

  -- the tokens up to one of a text
  upto_one : (text : Text) (found : List Scanned) (s : Scanned) (behind : List Scanned) → scanned text ≡ found ++ s ∷ behind
      → tokens_of text ≡ (separated k.End [] found ++ separated (kind_after k.End found) (open_after [] found) (s ∷ [])) ++ separated s.token.kind (opened (open_after [] found) s.token.kind) behind
  unfolding tokens_of
  upto_one text found s behind e =
      ap (separated k.End []) e ∙ separated_on k.End [] found (s ∷ behind)
      ∙ sym (append_assoc (separated k.End [] found) (with_separator (kind_after k.End found) (open_after [] found) s) (separated s.token.kind (opened (open_after [] found) s.token.kind) behind))
      ∙ ap (λ x. (separated k.End [] found ++ x) ++ separated s.token.kind (opened (open_after [] found) s.token.kind) behind) (sym (append-nil (with_separator (kind_after k.End found) (open_after [] found) s)))

  -- of a text that is cut behind the token after these
  cut_like : (found : List Scanned) (s : Scanned) (behind : List Scanned) (more : Text) (ss : List Scanned) → scanned source ≡ found ++ s ∷ behind → s.token.at < s.token.end → s.token.end ≤ length source → (f : Found s more ss)
      → AreLike source (take s.token.end source ++ more) (separated k.End [] found ++ separated (kind_after k.End found) (open_after [] found) (s ∷ [])) (separated k.End [] found ++ separated (kind_after k.End found) (open_after [] found) (f.one ∷ []))
  cut_like found s behind more ss whole some high f =
      like_behind source (take s.token.end source ++ more) (separated k.End [] found) (separated (kind_after k.End found) (open_after [] found) (s ∷ [])) (separated (kind_after k.End found) (open_after [] found) (f.one ∷ [])) (alike (separated k.End [] found) within)
      (like_one source (take s.token.end source ++ more) (kind_after k.End found) (open_after [] found) s f.one f.of_kind f.breaks spells)
    where
      many : length (take s.token.end source) ≡ s.token.end
      many = cut_length s.token.end source high

      alike : (ts : List Token) → EndWithin (take s.token.end source) ts → SpellAlike source (take s.token.end source ++ more) ts
      alike ts h = subst (λ t. SpellAlike t (take s.token.end source ++ more) ts) (take-append-drop s.token.end source) (both_begin (take s.token.end source) (drop s.token.end source) more ts h)

      within : EndWithin (take s.token.end source) (separated k.End [] found)
      within =
          let o = ordered source found (s ∷ behind) whole in
          let upto = last_upto (length source) 0 found s behind o in
          tokens_end (length source) 0 k.End [] found (s ∷ behind) (take s.token.end source) o (omega (arith, many, upto, some))

      spells : s.token.kind ≡ k.Number → spelling_of source s.token ≡ spelling_of (take s.token.end source ++ more) f.one.token
      spells e =
          let same = f.same (ap is_written e) in
          (alike (s.token ∷ []) (omega (arith, many), tt)).0 ∙ ap (λ (x : Scanned). spelling_of (take s.token.end source ++ more) x.token) (sym same.0)

  with_it : (s : Scanned) (more : Text) → IsWrittenAt source (place_in source (tokens_of source) number) s → StandsApart more → IsInGrammar (take s.token.end source ++ more) → ⊥
  unfolding tokens_of
  with_it s more w apart is = by (parted source k.End [] (scanned source) number among)
    where
      by : IsParted source k.End [] (scanned source) number → ⊥
      by p =
          let there = at_place source (place_in source (tokens_of source) number) p.found p.back p.whole p.place s w in
          let real = real_first source p.found p.back (take number (tokens_of source)) p.first first.before in
          let whole : scanned source ≡ p.found ++ s ∷ there.0 = p.whole ∙ ap (λ x. p.found ++ x) there.1 in
          let cut = cut_behind source p.found s there.0 whole real w.some in
          let c = cut.2 more (edge_low more apart) in
          let far = reaches k.End [] p.found p.back s (take number (tokens_of source)) p.first there.0 there.1 in
          let count : length (take number (tokens_of source)) ≡ number = (let l = length-take number (tokens_of source) in omega (arith, l, among)) in
          refused_by (take s.token.end source ++ more) _ _ _ _ is.0 (upto_one source p.found s there.0 whole) (upto_one (take s.token.end source ++ more) p.found c.2.one c.2.rest (c.1 ∙ ap (λ x. p.found ++ x) c.2.is))
          (omega (arith, far, count)) (cut_like p.found s there.0 more c.0 whole w.some cut.0 c.2) is.1

  itself : IsInGrammar source → ⊥
  itself is = go (nat_lt number (length (tokens_of source))) refl
    where
      go : (b : Bool) → nat_lt number (length (tokens_of source)) ≡ b → ⊥
      go true less =
          first.with_it source (take (suc number) (tokens_of source)) (drop (suc number) (tokens_of source)) is.0 (grind arith) (like_itself source (take (suc number) (tokens_of source)))
          (subst (λ ts. IsProgram source ts is.0) (sym (take-append-drop (suc number) (tokens_of source))) is.1)
      go false less = let least : length (tokens_of source) ≤ number = grind arith in first.at_end is.0 (omega (arith, least, among)) is.1

  written : ((s : Scanned) × IsWrittenAt source (place_in source (tokens_of source) number) s) ⊎ (place_in source (tokens_of source) number ≡ length source)
  unfolding tokens_of
  written = by (parted source k.End [] (scanned source) number among)
    where
      by : IsParted source k.End [] (scanned source) number → ((s : Scanned) × IsWrittenAt source (place_in source (tokens_of source) number) s) ⊎ (place_in source (tokens_of source) number ≡ length source)
      by p = go p.back p.whole p.place
        where
          go : (back : List Scanned) → scanned source ≡ p.found ++ back → place_in source (tokens_of source) number ≡ first_place source back → ((s : Scanned) × IsWrittenAt source (place_in source (tokens_of source) number) s) ⊎ (place_in source (tokens_of source) number ≡ length source)
          go [] whole place = inr place
          go (s ∷ rest) whole place = elim (ordered_at (length source) 0 p.found s rest (ordered source p.found (s ∷ rest) whole)).1.2 as (λ _. ((s : Scanned) × IsWrittenAt source (place_in source (tokens_of source) number) s) ⊎ (place_in source (tokens_of source) number ≡ length source)) [
            | inl some ↦ inl (s, record { one = subst (λ l. Contains l s) (sym whole) (Contains-append_right p.found (s ∷ rest) s (0, omega arith, refl)); begins = sym place; some = some })
            | inr end ↦ inr (place ∙ end.0)
          ]

-- ---- the laws

-- a text that is refused otherwise has no fault
pub fault_free : (source : Text) (e : ReadError) → ((at : ℕ) → e ≡ NotText at → ⊥) → read_of source ≡ Err e → fault_of source ≡ None
unfolding read_of
fault_free source e other h = go (fault_of source) h
  where
    go : (o : Option ℕ) → read_past source o ≡ Err e → o ≡ None
    go None h = refl
    go (Some at) h = absurd (other at (cc))

pub no_text : (limit : Limit) (place at : ℕ) → refusal_of limit place ≡ NotText at → ⊥
no_text Deep place at e = absurd (cc)
no_text Wide place at e = absurd (cc)

pub refused : (source : Text) (place : ℕ) → read_of source ≡ Err (NoParse place) → IsRefusedAt source place
refused source place h =
    let r = refused_first source place h in
    subst (IsRefusedAt source) (sym r.2) (record {
      number = r.0;
      among = r.1;
      stands = refl;
      written = written source r.0 r.1 r.3;
      first = r.3;
      before = goes_before_each source (utf8_of source (fault_free source (NoParse place) (λ at e. absurd (cc)) h)) r.0 r.1 r.3.before;
      with_it = with_it source r.0 r.1 r.3;
      itself = itself source r.0 r.1 r.3;
    })

pub passed : (source : Text) (place : ℕ) (limit : Limit) → read_of source ≡ Err (refusal_of limit place)
    → (number : ℕ) × (first_passed source (tokens_of source) ≡ Some (number, limit)) × (place ≡ place_in source (tokens_of source) number) × ((n : ℕ) → n ≤ number → GoesOnBefore source n)
passed source place limit h =
    let r = passed_first source place limit h in
    let far = passed_at source (r.0, limit) r.1 in
    (r.0, r.1, r.2, goes_before_each source (utf8_of source (fault_free source (refusal_of limit place) (no_text limit place) h)) r.0 (omega (arith, far)) r.3)
