-- How loops of a printed text begin, and what combines their values.
use Rattle.std.proofs.Common.{◌≡◌, ℕ, ◌≤◌, true, false, not, List, [], ◌∷◌, ◌++◌, length, codes, Contains, Option, Some, None, refl, sym, subst, ◌∙◌, arith}
use Rattle.std.specs.List.{list_all}
use Rattle.std.specs.Str.{bytes_eq}
use Rattle.std.proofs.lemmas.Slice.Eq.{bytes_eq-Decides}
use Rattle.std.proofs.lemmas.List.Elements.{All-contains}
use Rattle.std.proofs.lemmas.List.Sums.{AllPass-from_list_all}
use Rattle.sp_words.specs.declared.kind.BinOp.{BinOp}
use Rattle.sp_words.specs.declared.kind.Style.{Style}
use Rattle.sp_words.specs.declared.kind.Style.TheVariants as style
use Rattle.sp_words.specs.Names.{IsName as IsGoodName, reserved_words}
use Rattle.sp_tree.specs.declared.statement.Comb.{Comb}
use Rattle.sp_tree.specs.declared.statement.Comb.TheVariants as combiner
use Rattle.sp_tree.specs.PlainStatement as program
use Rattle.sp_tree.specs.Typing.{IsLoopStyle}
use Rattle.sp_reader.specs.declared.token.Token.{Token}
use Rattle.sp_reader.specs.declared.token.TokenKind.{TokenKind}
use Rattle.sp_reader.specs.declared.token.TokenKind.TheVariants as k
use Rattle.sp_reader.specs.PlainTree as tree
use Rattle.sp_reader.specs.PlainStatement as tree_of
use Rattle.sp_reader.specs.Steps.{Text, place_of}
use Rattle.sp_reader.specs.Tokens.{front, may_end}
use Rattle.sp_grammar.specs.Tokens.{Takes, Combines}
use Rattle.sp_grammar.specs.Loops.{IsCounterList, AreNames, AreBinds, ArePair, IsCombined, IsCombiner}
use Rattle.sp_grammar.specs.Statements.{MayHaveStyle, IsStyle}
use Rattle.sp_printer.specs.Names.{Names, counter_name}
use Rattle.sp_printer.specs.Pieces.{counters_text, bound_names, binds_text, loop_head, style_prefix, comb_text}
use Rattle.sp_scanned.specs.From.{From, Fronts, stops}
use Rattle.sp_scanned.proofs.Steps.{token_step, blank_step, line_step}
use Rattle.sp_scanned.proofs.Words.{keyword, keyword_before, sign, wild_blank, wild_close}
use Rattle.sp_printed.specs.LoopTrees.{IsStyleTree, IsCombOperator, IsCombTree, AreCounterTrees, AreBindTrees}
use Rattle.sp_printed.proofs.Takings.{parted, takes, name_step, close_round, close_curly, open_round, open_curly, Reads}
use Rattle.sp_printed.proofs.Loops.{CountersHave, counters_read}

module _ (source : Text) (names : Names) where
  -- ---- binders

  names_read : (c : program.PlainCounter) (all : List program.PlainCounter) → IsGoodName (counter_name names c.number) → CountersHave source names all → (before : TokenKind) (brackets : List TokenKind) (ts : List Token) (rest : Text)
      → From source false before brackets (bound_names names true (c ∷ all) ++ (codes ")" ++ rest)) ts → Reads source brackets (codes ")" ++ rest) (λ us xs. AreNames source ts us xs × AreBindTrees names (c ∷ all) xs)
  names_read c [] good others before brackets ts rest h =
      let n = name_step (counter_name names c.number) (codes ")" ++ rest) good refl (parted (counter_name names c.number) [] (codes ")" ++ rest) h) in
      record { left = n.left; what = n.name ∷ []; is = (AreNames.last n.is, AreBindTrees.more_binds n.text AreBindTrees.no_binds); last = n.last; ends = n.ends; next = n.next }
  names_read c (d ∷ all) good others before brackets ts rest h =
      let more = bound_names names true (d ∷ all) in
      let n = name_step (counter_name names c.number) (codes ", " ++ (more ++ (codes ")" ++ rest))) good refl (parted (counter_name names c.number) (codes ", " ++ more) (codes ")" ++ rest) h) in
      let m = token_step (codes ",") (codes " " ++ (more ++ (codes ")" ++ rest))) n.next (sign 44 [] (codes " " ++ (more ++ (codes ")" ++ rest))) k.Comma refl refl) in
      let q = names_read d all others.1 others.2 k.Comma brackets m.left rest (blank_step (more ++ (codes ")" ++ rest)) m.next) in
      record { left = q.left; what = n.name ∷ q.what; is = (AreNames.next n.is (takes m) q.is.0, AreBindTrees.more_binds n.text q.is.1); last = q.last; ends = q.ends; next = q.next }

  -- what is bound, before an arrow
  binds_read : (c : program.PlainCounter) (all : List program.PlainCounter) → IsGoodName (counter_name names c.number) → CountersHave source names all → (before : TokenKind) (brackets : List TokenKind) (ts : List Token) (rest : Text) → stops rest ≡ true
      → From source false before brackets (binds_text names (c ∷ all) ++ rest) ts → Reads source brackets rest (λ us xs. AreBinds source ts us xs × AreBindTrees names (c ∷ all) xs)
  binds_read c [] good others before brackets ts rest stop h =
      let n = name_step (counter_name names c.number) rest good stop h in
      record { left = n.left; what = n.name ∷ []; is = (AreBinds.alone n.is, AreBindTrees.more_binds n.text AreBindTrees.no_binds); last = n.last; ends = n.ends; next = n.next }
  binds_read c (d ∷ all) good others before brackets ts rest stop h =
      let inner = bound_names names true (c ∷ d ∷ all) in
      let a = open_round brackets ((inner ++ codes ")") ++ rest) h in
      let q = names_read c (d ∷ all) good others k.OpenRound (brackets ++ k.OpenRound ∷ []) a.left rest (parted inner (codes ")") rest a.next) in
      let b = close_round brackets rest q.next in
      record { left = b.left; what = q.what; is = (AreBinds.enclosed (takes a) q.is.0 b.takes, q.is.1); last = k.CloseRound; ends = refl; next = b.next }

  -- ---- the line with which a loop begins

  pub record HeadTaken (counters : List program.PlainCounter) (brackets : List TokenKind) (after : Text) (ts : List Token) : Type 0 where
    pub listed : List Token
    pub opened : List Token
    pub bound : List Token
    pub left : List Token
    pub counters_read : List tree_of.PlainCounter
    pub binds_read : List tree.PlainIdent
    pub is_list : IsCounterList source ts listed counters_read
    pub curly : Takes k.OpenCurly listed opened
    pub are_binds : AreBinds source opened bound binds_read
    pub arrow : Takes k.Arrow bound left
    pub counters_are : AreCounterTrees names counters counters_read
    pub binds_are : AreBindTrees names counters binds_read
    pub next : From source true k.Arrow (brackets ++ k.OpenCurly ∷ []) after left

  head_step : {before : TokenKind} {brackets : List TokenKind} {ts : List Token} (c : program.PlainCounter) (all : List program.PlainCounter) (after : Text) → length all ≤ 3 → CountersHave source names (c ∷ all)
      → From source false before brackets ((codes "(" ++ (counters_text names true (c ∷ all) ++ (codes "){ " ++ (binds_text names (c ∷ all) ++ (codes " =>" ++ codes "\n"))))) ++ after) ts → HeadTaken (c ∷ all) brackets after ts
  head_step {before} {brackets} {ts} c all after few has h =
      let line = codes " =>" ++ codes "\n" in
      let bound = binds_text names (c ∷ all) ++ line in
      let listed = counters_text names true (c ∷ all) in
      let a = open_round brackets ((listed ++ (codes "){ " ++ bound)) ++ after) h in
      let q = counters_read source names 3 c all few has.0 has.2 k.OpenRound (brackets ++ k.OpenRound ∷ []) a.left (codes "{ " ++ (bound ++ after)) (parted listed (codes "){ " ++ bound) after a.next) in
      let b = close_round brackets (codes "{ " ++ (bound ++ after)) q.next in
      let o = open_curly brackets (codes " " ++ (bound ++ after)) b.next in
      let r = binds_read c all has.1 has.2 k.OpenCurly (brackets ++ k.OpenCurly ∷ []) o.left (line ++ after) refl (parted (binds_text names (c ∷ all)) line after (blank_step (bound ++ after) o.next)) in
      let w = token_step (codes "=>") (codes "\n" ++ after) (blank_step (codes "=>" ++ (codes "\n" ++ after)) r.next) (sign 61 (62 ∷ []) (codes "\n" ++ after) k.Arrow refl refl) in
      record {
        listed = b.left;
        opened = o.left;
        bound = r.left;
        left = w.left;
        counters_read = q.what;
        binds_read = r.what;
        is_list = IsCounterList.enclosed (takes a) q.is.0 b.takes;
        curly = takes o;
        are_binds = r.is.0;
        arrow = takes w;
        counters_are = q.is.1;
        binds_are = r.is.1;
        next = line_step after w.next;
      }

  pub loop_step : {before : TokenKind} {brackets : List TokenKind} {ts : List Token} (counters : List program.PlainCounter) (after : Text) → 1 ≤ length counters → length counters ≤ 4 → CountersHave source names counters
      → From source false before brackets (loop_head names counters ++ after) ts → HeadTaken counters brackets after ts
  unfolding loop_head
  loop_step [] after some few has h = absurd (omega (arith, some))
  loop_step (c ∷ all) after some few has h = head_step c all after (omega (arith, few)) has h

-- ---- styles

pub record StyleTaken (source : Text) (s : Style) (brackets : List TokenKind) (rest : Text) (ts : List Token) : Type 0 where
  pub left : List Token
  pub what : Option Style
  pub is : MayHaveStyle ts left what
  pub spells : IsStyleTree s what
  pub last : TokenKind
  pub next : From source false last brackets rest left

pub style_step : {source : Text} {before : TokenKind} {brackets : List TokenKind} {ts : List Token} (s : Style) (rest : Text) → IsLoopStyle s
    → From source false before brackets (style_prefix s ++ rest) ts → StyleTaken source s brackets rest ts
style_step {source} {before} {brackets} {ts} style.Pipe rest is h = record { left = ts; what = None; is = MayHaveStyle.none; spells = IsStyleTree.pipe; last = before; next = h }
style_step style.Sequential rest is h =
    let a = token_step (codes "Sequential") (codes "." ++ rest) h (keyword_before (codes "Sequential") (codes "." ++ rest) k.Sequential refl refl refl) in
    let b = token_step (codes ".") rest a.next (sign 46 [] rest k.Dot refl refl) in
    record { left = b.left; what = Some style.Sequential; is = MayHaveStyle.some IsStyle.sequential (takes a) (takes b); spells = IsStyleTree.sequential; last = k.Dot; next = b.next }
style_step style.Parallel rest is h = absurd is
style_step style.Stream rest is h = absurd is

-- ---- combiners

free_word : (w : Text) → list_all (λ r. not (bytes_eq r w)) reserved_words ≡ true → Contains reserved_words w → ⊥
free_word w all at =
    let other = All-contains (λ r. not (bytes_eq r w) ≡ true) reserved_words w (AllPass-from_list_all (λ r. not (bytes_eq r w)) reserved_words all) at in
    let same : bytes_eq w w ≡ true = (bytes_eq-Decides w w).1 refl in
    let bad : false ≡ true = rw same at other in
    absurd (cc)

first_name : IsGoodName (codes "a")
first_name = record { letters = refl; free = free_word (codes "a") refl }

second_name : IsGoodName (codes "b")
second_name = record { letters = refl; free = free_word (codes "b") refl }

-- a combiner, behind a bracket
pub record CombTaken (source : Text) (c : Comb) (brackets : List TokenKind) (rest : Text) (ts : List Token) : Type 0 where
  pub left : List Token
  pub what : tree_of.PlainComb
  pub is : IsCombiner source ts left what
  pub spells : IsCombTree c what
  pub next : From source false k.CloseCurly brackets rest left

sign_comb : {source : Text} {before : TokenKind} {brackets : List TokenKind} {ts : List Token} (c : Comb) (o : BinOp) (kind : TokenKind) (b : ℕ) (rest : Text)
    → IsCombOperator c o → Combines kind o → Fronts kind (b ∷ []) (codes " _}" ++ rest) → ((x : List TokenKind) → Rattle.sp_reader.specs.Tokens.opened x kind ≡ x)
    → From source false before brackets (codes "{_ " ++ (b ∷ (codes " _}" ++ rest))) ts → CombTaken source c brackets rest ts
sign_comb {source} {before} {brackets} {ts} c o kind b rest operator combines f plain h =
    let inner = brackets ++ k.OpenCurly ∷ [] in
    let last = codes "_}" ++ rest in
    let sign_text = b ∷ (codes " _}" ++ rest) in
    let a = open_curly brackets (codes "_ " ++ sign_text) h in
    let w = token_step (codes "_") (codes " " ++ sign_text) a.next (wild_blank sign_text) in
    let s = token_step (b ∷ []) (codes " _}" ++ rest) (blank_step sign_text w.next) f in
    let v = token_step (codes "_") (codes "}" ++ rest) (blank_step last (subst (λ x. From source false kind x (codes " _}" ++ rest) s.left) (plain inner) s.next)) (wild_close rest) in
    let z = close_curly brackets rest v.next in
    record { left = z.left; what = record { place = place_of ts; params = None; operator = o; args = None }; is = IsCombiner.unnamed combines (takes a) (takes w) (takes s) (takes v) z.takes; spells = IsCombTree.unnamed operator; next = z.next }

-- two names in parentheses
record PairTaken (source : Text) (brackets : List TokenKind) (rest : Text) (ts : List Token) : Type 0 where
  left : List Token
  first : tree.PlainIdent
  second : tree.PlainIdent
  is : ArePair source ts left first second
  first_is : first.text ≡ codes "a"
  second_is : second.text ≡ codes "b"
  next : From source false k.CloseRound brackets rest left

pair_step : {source : Text} {before : TokenKind} {brackets : List TokenKind} {ts : List Token} (rest : Text)
    → From source false before brackets (codes "(a, b)" ++ rest) ts → PairTaken source brackets rest ts
pair_step {source} {before} {brackets} {ts} rest h =
    let inner = brackets ++ k.OpenRound ∷ [] in
    let a = open_round brackets (codes "a, b)" ++ rest) h in
    let i = name_step (codes "a") (codes ", b)" ++ rest) first_name refl a.next in
    let c = token_step (codes ",") (codes " b)" ++ rest) i.next (sign 44 [] (codes " b)" ++ rest) k.Comma refl refl) in
    let j = name_step (codes "b") (codes ")" ++ rest) second_name refl (blank_step (codes "b)" ++ rest) c.next) in
    let z = close_round brackets rest j.next in
    record { left = z.left; first = i.name; second = j.name; is = ArePair.pair (takes a) i.is (takes c) j.is z.takes; first_is = i.text; second_is = j.text; next = z.next }

least_comb : {source : Text} {before : TokenKind} {brackets : List TokenKind} {ts : List Token} (rest : Text)
    → From source false before brackets (codes "{(a, b) => min(a, b)}" ++ rest) ts → CombTaken source combiner.Min brackets rest ts
least_comb {source} {before} {brackets} {ts} rest h =
    let a = open_curly brackets (codes "(a, b) => min(a, b)}" ++ rest) h in
    let p = pair_step (codes " => min(a, b)}" ++ rest) a.next in
    let w = token_step (codes "=>") (codes " min(a, b)}" ++ rest) (blank_step (codes "=> min(a, b)}" ++ rest) p.next) (sign 61 (62 ∷ []) (codes " min(a, b)}" ++ rest) k.Arrow refl refl) in
    let m = token_step (codes "min") (codes "(a, b)}" ++ rest) (blank_step (codes "min(a, b)}" ++ rest) w.next) (keyword (codes "min") (codes "(a, b)}" ++ rest) k.Min refl refl refl) in
    let q = pair_step (codes "}" ++ rest) m.next in
    let z = close_curly brackets rest q.next in
    record {
      left = z.left;
      what = record { place = place_of ts; params = Some (p.first, p.second); operator = _; args = Some (q.first, q.second) };
      is = IsCombiner.named (takes a) p.is (takes w) (IsCombined.least (takes m) q.is) z.takes;
      spells = IsCombTree.named IsCombOperator.least (q.first_is ∙ sym p.first_is) (q.second_is ∙ sym p.second_is);
      next = z.next;
    }

greatest_comb : {source : Text} {before : TokenKind} {brackets : List TokenKind} {ts : List Token} (rest : Text)
    → From source false before brackets (codes "{(a, b) => max(a, b)}" ++ rest) ts → CombTaken source combiner.Max brackets rest ts
greatest_comb {source} {before} {brackets} {ts} rest h =
    let a = open_curly brackets (codes "(a, b) => max(a, b)}" ++ rest) h in
    let p = pair_step (codes " => max(a, b)}" ++ rest) a.next in
    let w = token_step (codes "=>") (codes " max(a, b)}" ++ rest) (blank_step (codes "=> max(a, b)}" ++ rest) p.next) (sign 61 (62 ∷ []) (codes " max(a, b)}" ++ rest) k.Arrow refl refl) in
    let m = token_step (codes "max") (codes "(a, b)}" ++ rest) (blank_step (codes "max(a, b)}" ++ rest) w.next) (keyword (codes "max") (codes "(a, b)}" ++ rest) k.Max refl refl refl) in
    let q = pair_step (codes "}" ++ rest) m.next in
    let z = close_curly brackets rest q.next in
    record {
      left = z.left;
      what = record { place = place_of ts; params = Some (p.first, p.second); operator = _; args = Some (q.first, q.second) };
      is = IsCombiner.named (takes a) p.is (takes w) (IsCombined.greatest (takes m) q.is) z.takes;
      spells = IsCombTree.named IsCombOperator.greatest (q.first_is ∙ sym p.first_is) (q.second_is ∙ sym p.second_is);
      next = z.next;
    }

pub comb_step : {source : Text} {before : TokenKind} {brackets : List TokenKind} {ts : List Token} (c : Comb) (rest : Text)
    → From source false before brackets (comb_text c ++ rest) ts → CombTaken source c brackets rest ts
comb_step combiner.Add rest h = sign_comb combiner.Add _ k.Plus 43 rest IsCombOperator.add Combines.sum (sign 43 [] (codes " _}" ++ rest) k.Plus refl refl) (λ x. refl) h
comb_step combiner.Mul rest h = sign_comb combiner.Mul _ k.Star 42 rest IsCombOperator.mul Combines.product (sign 42 [] (codes " _}" ++ rest) k.Star refl refl) (λ x. refl) h
comb_step combiner.And rest h = sign_comb combiner.And _ k.And 38 rest IsCombOperator.both Combines.all (sign 38 [] (codes " _}" ++ rest) k.And refl refl) (λ x. refl) h
comb_step combiner.Or rest h = sign_comb combiner.Or _ k.Or 124 rest IsCombOperator.either Combines.some (sign 124 [] (codes " _}" ++ rest) k.Or refl refl) (λ x. refl) h
comb_step combiner.Xor rest h = sign_comb combiner.Xor _ k.Caret 94 rest IsCombOperator.unlike Combines.parity (sign 94 [] (codes " _}" ++ rest) k.Caret refl refl) (λ x. refl) h
comb_step combiner.Min rest h = least_comb rest h
comb_step combiner.Max rest h = greatest_comb rest h
