-- The tokens of a text, with the `;` that line ends insert, up to a place.
use Rattle.std.proofs.Common.{◌≡◌, ◌∙◌, ℕ, zero, suc, ◌≤◌, ◌<◌, Bool, true, false, List, [], ◌∷◌, ◌++◌, length, take, append_assoc, refl, sym, ap, subst, arith, if◌then◌else◌}
use Rattle.std.specs.Prelude.{slice_index_or}
use Rattle.std.specs.List.{Contains}
use Rattle.sp_reader.specs.declared.scan.Scanned.{Scanned}
use Rattle.sp_reader.specs.declared.token.Token.{Token}
use Rattle.sp_reader.specs.declared.token.TokenKind.{TokenKind}
use Rattle.sp_reader.specs.declared.token.TokenKind.TheVariants as k
use Rattle.sp_reader.specs.Limits.{place_in}
use Rattle.sp_reader.specs.Steps.{Text}
use Rattle.sp_reader.specs.Tokens.{opened, inserts, with_separator, separated}
use Rattle.sp_refusals.specs.Laws.{EndWithin}
use Rattle.sp_refused_texts.specs.Laws.{end_of}
use Rattle.sp_refused_texts.proofs.Fronts.{is_written}
use Rattle.sp_refused_texts.proofs.Written.{AreWritten}
use Rattle.sp_refused_texts.proofs.Order.{AreOrdered, not_back, before_one}
use Rattle.sp_refused_texts.proofs.Cuts.{AreReal, heads}

-- the kind of the last of these, or the one before
abbrev pub kind_after : TokenKind → List Scanned → TokenKind
kind_after before [] = before
kind_after before (s ∷ rest) = kind_after s.token.kind rest

-- the brackets that are open behind these
abbrev pub open_after : List TokenKind → List Scanned → List TokenKind
open_after brackets [] = brackets
open_after brackets (s ∷ rest) = open_after (opened brackets s.token.kind) rest

pub separated_on : (before : TokenKind) (brackets : List TokenKind) (found rest : List Scanned)
    → separated before brackets (found ++ rest) ≡ separated before brackets found ++ separated (kind_after before found) (open_after brackets found) rest
separated_on before brackets [] rest = refl
separated_on before brackets (s ∷ found) rest =
    ap (λ x. with_separator before brackets s ++ x) (separated_on s.token.kind (opened brackets s.token.kind) found rest)
    ∙ sym (append_assoc (with_separator before brackets s) (separated s.token.kind (opened brackets s.token.kind) found) (separated (kind_after s.token.kind found) (open_after (opened brackets s.token.kind) found) rest))

-- the `;` before a token
abbrev pub semi : Scanned → Token
semi s = record { kind = k.Semicolon; at = s.token.at; end = s.token.at }

-- the place of the first of these, or the length
abbrev pub first_place : Text → List Scanned → ℕ
first_place source [] = length source
first_place source (s ∷ rest) = s.token.at

-- the first tokens are those of the first written ones, or these and the `;` before the next
pub data AreFirst (before : TokenKind) (brackets : List TokenKind) (found back : List Scanned) (ts : List Token) : Type 0 where
  plain : ts ≡ separated before brackets found → AreFirst before brackets found back ts
  with_semi : (s : Scanned) (rest : List Scanned) → back ≡ s ∷ rest → inserts (kind_after before found) (open_after brackets found) s ≡ true → ts ≡ separated before brackets found ++ semi s ∷ []
      → AreFirst before brackets found back ts

pub record IsParted (source : Text) (before : TokenKind) (brackets : List TokenKind) (ss : List Scanned) (number : ℕ) : Type 0 where
  pub found : List Scanned
  pub back : List Scanned
  pub whole : ss ≡ found ++ back
  pub first : AreFirst before brackets found back (take number (separated before brackets ss))
  pub place : place_in source (separated before brackets ss) number ≡ first_place source back

-- nothing is before the first
at_front : (source : Text) (before : TokenKind) (brackets : List TokenKind) (ss : List Scanned) → IsParted source before brackets ss 0
at_front source before brackets [] = record { found = []; back = []; whole = refl; first = AreFirst.plain refl; place = refl }
at_front source before brackets (s ∷ rest) = record { found = []; back = s ∷ rest; whole = refl; first = AreFirst.plain refl; place = go (inserts before brackets s) }
  where
    go : (b : Bool) → place_in source ((if b then semi s ∷ s.token ∷ [] else s.token ∷ []) ++ separated s.token.kind (opened brackets s.token.kind) rest) 0 ≡ s.token.at
    go true = refl
    go false = refl

-- behind one more
further : (before : TokenKind) (brackets : List TokenKind) (s : Scanned) (found back : List Scanned) (ts : List Token) → AreFirst s.token.kind (opened brackets s.token.kind) found back ts → AreFirst before brackets (s ∷ found) back (with_separator before brackets s ++ ts)
further before brackets s found back ts (AreFirst.plain e) = AreFirst.plain (ap (λ x. with_separator before brackets s ++ x) e)
further before brackets s found back ts (AreFirst.with_semi t rest is ins e) =
    AreFirst.with_semi t rest is ins (ap (λ x. with_separator before brackets s ++ x) e ∙ sym (append_assoc (with_separator before brackets s) (separated s.token.kind (opened brackets s.token.kind) found) (semi t ∷ [])))

pub parted : (source : Text) (before : TokenKind) (brackets : List TokenKind) (ss : List Scanned) (number : ℕ) → number ≤ length (separated before brackets ss) → IsParted source before brackets ss number
parted source before brackets ss zero le = at_front source before brackets ss
parted source before brackets [] (suc n) le = absurd (omega (arith, le))
parted source before brackets (s ∷ rest) (suc n) le = go (inserts before brackets s) refl n le (parted source s.token.kind (opened brackets s.token.kind) rest)
  where
    alone : inserts before brackets s ≡ false → (n : ℕ) → with_separator before brackets s ++ take n (separated s.token.kind (opened brackets s.token.kind) rest) ≡ take (suc n) (with_separator before brackets s ++ separated s.token.kind (opened brackets s.token.kind) rest)
    alone is n = rw is refl

    with_two : inserts before brackets s ≡ true → (n : ℕ) → with_separator before brackets s ++ take n (separated s.token.kind (opened brackets s.token.kind) rest) ≡ take (suc (suc n)) (with_separator before brackets s ++ separated s.token.kind (opened brackets s.token.kind) rest)
    with_two is n = rw is refl

    go : (b : Bool) → inserts before brackets s ≡ b → (n : ℕ) → suc n ≤ length ((if b then semi s ∷ s.token ∷ [] else s.token ∷ []) ++ separated s.token.kind (opened brackets s.token.kind) rest)
        → ((m : ℕ) → m ≤ length (separated s.token.kind (opened brackets s.token.kind) rest) → IsParted source s.token.kind (opened brackets s.token.kind) rest m)
        → IsParted source before brackets (s ∷ rest) (suc n)
    go false is n le next =
        let p = next n (omega (arith, le)) in
        record {
          found = s ∷ p.found;
          back = p.back;
          whole = ap (λ x. s ∷ x) p.whole;
          first = subst (AreFirst before brackets (s ∷ p.found) p.back) (alone is n) (further before brackets s p.found p.back (take n (separated s.token.kind (opened brackets s.token.kind) rest)) p.first);
          place = rw is p.place;
        }
    go true is zero le next = record {
      found = [];
      back = s ∷ rest;
      whole = refl;
      first = AreFirst.with_semi s rest refl is (rw is refl);
      place = rw is refl;
    }
    go true is (suc n) le next =
        let p = next n (omega (arith, le)) in
        record {
          found = s ∷ p.found;
          back = p.back;
          whole = ap (λ x. s ∷ x) p.whole;
          first = subst (AreFirst before brackets (s ∷ p.found) p.back) (with_two is n) (further before brackets s p.found p.back (take n (separated s.token.kind (opened brackets s.token.kind) rest)) p.first);
          place = rw is p.place;
        }

-- ---- which tokens stand in a rule

pub real_found : (before : TokenKind) (brackets : List TokenKind) (found : List Scanned) → AreWritten (separated before brackets found) → AreReal found
real_found before brackets [] h = tt
real_found before brackets (s ∷ found) h = go (inserts before brackets s) h (real_found s.token.kind (opened brackets s.token.kind) found)
  where
    go : (b : Bool) → AreWritten ((if b then semi s ∷ s.token ∷ [] else s.token ∷ []) ++ separated s.token.kind (opened brackets s.token.kind) found)
        → (AreWritten (separated s.token.kind (opened brackets s.token.kind) found) → AreReal found) → AreReal (s ∷ found)
    go true h next = (h.1.0, next h.1.1)
    go false h next = (h.0, next h.1)

-- ---- places

-- the end of the last of these, or the place before
abbrev pub last_end : ℕ → List Scanned → ℕ
last_end last [] = last
last_end last (s ∷ rest) = last_end s.token.end rest

pub end_found : (last : ℕ) (before : TokenKind) (brackets : List TokenKind) (found : List Scanned) → end_of last (separated before brackets found) ≡ last_end last found
end_found last before brackets [] = refl
end_found last before brackets (s ∷ found) = go (inserts before brackets s) (end_found s.token.end s.token.kind (opened brackets s.token.kind) found)
  where
    go : (b : Bool) → end_of s.token.end (separated s.token.kind (opened brackets s.token.kind) found) ≡ last_end s.token.end found
        → end_of last ((if b then semi s ∷ s.token ∷ [] else s.token ∷ []) ++ separated s.token.kind (opened brackets s.token.kind) found) ≡ last_end s.token.end found
    go true e = e
    go false e = e

pub end_last : (last : ℕ) (ts : List Token) (t : Token) → end_of last (ts ++ t ∷ []) ≡ t.end
end_last last [] t = refl
end_last last (u ∷ ts) t = end_last u.end ts t

-- each of these ends before the last does
pub ends_upto : (total at : ℕ) (found back : List Scanned) → AreOrdered total at (found ++ back) → at ≤ last_end at found
ends_upto total at [] back h = omega arith
ends_upto total at (f ∷ found) back h = let more = ends_upto total f.token.end found back h.3 in let some = not_back f (found ++ back) h in omega (arith, h.0, some, more)

pub last_within : (total at : ℕ) (found back : List Scanned) → at ≤ total → AreOrdered total at (found ++ back) → last_end at found ≤ total
last_within total at [] back le h = le
last_within total at (f ∷ found) back le h = last_within total f.token.end found back h.1 h.3

pub last_upto : (total at : ℕ) (found : List Scanned) (s : Scanned) (back : List Scanned) → AreOrdered total at (found ++ s ∷ back) → last_end at found ≤ s.token.at
last_upto total at [] s back h = h.0
last_upto total at (f ∷ found) s back h = last_upto total f.token.end found s back h.3

-- of one of a list
pub ordered_at : (total at : ℕ) (found : List Scanned) (s : Scanned) (back : List Scanned) → AreOrdered total at (found ++ s ∷ back) → (start : ℕ) × AreOrdered total start (s ∷ back)
ordered_at total at [] s back h = (at, h)
ordered_at total at (f ∷ found) s back h = ordered_at total f.token.end found s back h.3

-- the tokens of these end within what ends with the last
pub tokens_end : (total at : ℕ) (before : TokenKind) (brackets : List TokenKind) (found back : List Scanned) (text : Text) → AreOrdered total at (found ++ back) → last_end at found ≤ length text → EndWithin text (separated before brackets found)
tokens_end total at before brackets [] back text h le = tt
tokens_end total at before brackets (f ∷ found) back text h le =
    let upto = ends_upto total f.token.end found back h.3 in
    let some = not_back f (found ++ back) h in
    go (inserts before brackets f) (omega (arith, upto, some, le)) (omega (arith, upto, le)) (tokens_end total f.token.end f.token.kind (opened brackets f.token.kind) found back text h.3 le)
  where
    go : (b : Bool) → f.token.at ≤ length text → f.token.end ≤ length text → EndWithin text (separated f.token.kind (opened brackets f.token.kind) found)
        → EndWithin text ((if b then semi f ∷ f.token ∷ [] else f.token ∷ []) ++ separated f.token.kind (opened brackets f.token.kind) found)
    go true first last more = (first, (last, more))
    go false first last more = (last, more)

-- ---- the token at a place

-- the first of the others stands behind those before
place_upto : (source : Text) (at : ℕ) (found back : List Scanned) → at ≤ length source → AreOrdered (length source) at (found ++ back) → at ≤ first_place source back
place_upto source at [] [] le h = le
place_upto source at [] (s ∷ back) le h = h.0
place_upto source at (f ∷ found) back le h = let some = not_back f (found ++ back) h in let more = place_upto source f.token.end found back h.1 h.3 in omega (arith, h.0, some, more)

-- what stands at the place of the first of the others is that first one
pub same_split : (source : Text) (at : ℕ) (found back first behind : List Scanned) (s : Scanned) → found ++ back ≡ first ++ s ∷ behind → AreOrdered (length source) at (found ++ back) → s.token.at < s.token.end → first_place source back ≡ s.token.at
    → (found ≡ first) × (back ≡ s ∷ behind)
same_split source at [] back [] behind s e h some place = (refl, e)
same_split source at [] back (f ∷ first) behind s e h some place =
    let b = before_one (length source) at (f ∷ first) s behind (subst (AreOrdered (length source) at) e h) in
    let here : f.token.at ≡ s.token.at = sym (ap (first_place source) e) ∙ place in
    absurd (omega (arith, b.1.0, here))
same_split source at (f ∷ found) back [] behind s e h some place =
    let same = ap (λ (x : Scanned). x.token.end) (heads f s (found ++ back) behind e).0 in
    let far = place_upto source f.token.end found back h.1 h.3 in
    absurd (omega (arith, same, far, place, some))
same_split source at (f ∷ found) back (g ∷ first) behind s e h some place =
    let parts = heads f g (found ++ back) (first ++ s ∷ behind) e in
    let more = same_split source f.token.end found back first behind s parts.1 h.3 some place in
    (ap (λ x. x ∷ found) parts.0 ∙ ap (λ l. g ∷ l) more.0, more.1)

-- ---- the last of some tokens

pub record IsLast (all : List Scanned) : Type 0 where
  pub before : List Scanned
  pub last : Scanned
  pub is : all ≡ before ++ last ∷ []
  pub ends : (at : ℕ) → last_end at all ≡ last.token.end

pub last_of : (f : Scanned) (found : List Scanned) → IsLast (f ∷ found)
last_of f [] = record { before = []; last = f; is = refl; ends = λ at. refl }
last_of f (g ∷ found) = let l = last_of g found in record { before = f ∷ l.before; last = l.last; is = ap (λ x. f ∷ x) l.is; ends = λ at. l.ends f.token.end }

pub real_parts : (found : List Scanned) (s : Scanned) → AreReal (found ++ s ∷ []) → AreReal found × (is_written s.token.kind ≡ true)
real_parts [] s h = (tt, h.0)
real_parts (f ∷ found) s h = let more = real_parts found s h.1 in ((h.0, more.0), more.1)

-- where one of a list stands
pub split_at : (xs : List Scanned) (x : Scanned) → Contains xs x → (first : List Scanned) × (behind : List Scanned) × (xs ≡ first ++ x ∷ behind)
split_at xs x c = go xs c.0 c.1 c.2
  where
    go : (xs : List Scanned) (n : ℕ) → n < length xs → slice_index_or xs n x ≡ x → (first : List Scanned) × (behind : List Scanned) × (xs ≡ first ++ x ∷ behind)
    go [] n less is = absurd (omega (arith, less))
    go (y ∷ xs) zero less is = ([], xs, ap (λ z. z ∷ xs) is)
    go (y ∷ xs) (suc n) less is = let more = go xs n (omega (arith, less)) is in (y ∷ more.0, more.1, ap (λ l. y ∷ l) more.2)
