-- Slices and counters of a printed text.
use Rattle.std.proofs.Common.{◌≡◌, ℕ, zero, suc, ◌≤◌, ◌==◌, Bool, true, false, if◌then◌else◌, List, [], ◌∷◌, ◌++◌, length, codes, decimal, Option, Some, None, refl, arith}
use Rattle.sp_words.specs.Interface.{IsCount}
use Rattle.sp_words.specs.Names.{IsName as IsGoodName}
use Rattle.sp_tree.specs.PlainStatement as program
use Rattle.sp_reader.specs.declared.syntax.statement.SynPar.{SynPar}
use Rattle.sp_reader.specs.declared.token.Token.{Token}
use Rattle.sp_reader.specs.declared.token.TokenKind.{TokenKind}
use Rattle.sp_reader.specs.declared.token.TokenKind.TheVariants as k
use Rattle.sp_reader.specs.PlainTree as tree
use Rattle.sp_reader.specs.PlainStatement as tree_of
use Rattle.sp_reader.specs.Steps.{Text, place_of}
use Rattle.sp_reader.specs.Tokens.{may_end}
use Rattle.sp_grammar.specs.Loops.{IsPar, IsStep, IsSpan, AreSpans, AreBounds, IsCounter, AreCounters}
use Rattle.sp_printer.specs.Expressions.{whole_text}
use Rattle.sp_printer.specs.Names.{Names, counter_name}
use Rattle.sp_printer.specs.Pieces.{par_text, span_text, spans_text, is_zero, counter_text, counters_text}
use Rattle.sp_scanned.specs.From.{From, stops}
use Rattle.sp_scanned.proofs.Steps.{token_step, blank_step}
use Rattle.sp_scanned.proofs.Words.{keyword, sign}
use Rattle.sp_printed.specs.LoopTrees.{IsParTree, IsSpanTree, AreSpanTrees, IsFromTree, IsCounterTree, AreCounterTrees}
use Rattle.sp_printed.proofs.Takings.{parted, takes, begins_left, Reads, Printed, at_top}
use Rattle.sp_printed.proofs.Values.{count_step}
use Rattle.sp_printed.proofs.Calls.{ExprReads}

-- ---- lanes

pub record ParTaken (source : Text) (par : ℕ) (brackets : List TokenKind) (rest : Text) (ts : List Token) : Type 0 where
  pub left : List Token
  pub what : Option SynPar
  pub is : IsPar source ts left what
  pub spells : IsParTree par what
  pub last : TokenKind
  pub ends : may_end last ≡ true
  pub next : From source false last brackets rest left

pub par_step : {source : Text} {before : TokenKind} {brackets : List TokenKind} {ts : List Token} (par : ℕ) (rest : Text) → IsCount par → stops rest ≡ true → may_end before ≡ true
    → From source false before brackets (par_text par ++ rest) ts → ParTaken source par brackets rest ts
par_step {source} {before} {brackets} {ts} par rest count stop ends h = go (par == 1) refl h
  where
    go : (b : Bool) → (par == 1) ≡ b → From source false before brackets ((if b then [] else codes " par " ++ decimal par) ++ rest) ts → ParTaken source par brackets rest ts
    go true is h = record { left = ts; what = None; is = IsPar.none; spells = IsParTree.one_lane is; last = before; ends = ends; next = h }
    go false is h =
        let a = token_step (codes "par") (codes " " ++ (decimal par ++ rest)) (blank_step (codes "par " ++ (decimal par ++ rest)) h) (keyword (codes "par") (codes " " ++ (decimal par ++ rest)) k.Par refl refl refl) in
        let n = count_step par rest (omega (arith, count.1)) stop (blank_step (decimal par ++ rest) a.next) in
        record { left = n.left; what = Some (record { at = place_of ts; lanes = par }); is = IsPar.lanes (takes a) (n.is 1 2147483647 count.0 (omega (arith, count.1))); spells = IsParTree.lanes is; last = k.Number; ends = refl; next = n.next }

par_stops : (par : ℕ) (rest : Text) → stops rest ≡ true → stops (par_text par ++ rest) ≡ true
par_stops par rest stop = go (par == 1)
  where
    go : (b : Bool) → stops ((if b then [] else codes " par " ++ decimal par) ++ rest) ≡ true
    go true = stop
    go false = refl

module _ (source : Text) (names : Names) where
  -- ---- spans

  abbrev IsSpanRead : program.PlainSpan → List Token → List Token → tree_of.PlainSpan → Type 0
  IsSpanRead s ts us x = IsSpan source ts us x × IsSpanTree names s x

  abbrev pub SpanHas : program.PlainSpan → Type 0
  SpanHas (program.single e) = ExprReads source names 0 e
  SpanHas (program.range a b par) = ExprReads source names 0 a × ExprReads source names 0 b × IsCount par

  span_reads : (s : program.PlainSpan) → SpanHas s → Printed source (span_text names s) (IsSpanRead s)
  span_reads (program.single e) f = record {
    begins = f.begins;
    reads = λ before brackets ts rest stop h.
        let r = f.reads before brackets ts rest stop h in
        record { left = r.left; what = tree_of.single r.what; is = (IsSpan.an_index (at_top source r.is.0), IsSpanTree.an_index r.is.1); last = r.last; ends = r.ends; next = r.next };
  }
  span_reads (program.range a b par) f = record {
    begins = λ rest stop. begins_left (whole_text names a) (codes "::" ++ (whole_text names b ++ par_text par)) rest (f.0.begins (codes "::" ++ ((whole_text names b ++ par_text par) ++ rest)) refl);
    reads = λ before brackets ts rest stop h.
        let r = f.0.reads before brackets ts (codes "::" ++ ((whole_text names b ++ par_text par) ++ rest)) refl (parted (whole_text names a) (codes "::" ++ (whole_text names b ++ par_text par)) rest h) in
        let c = token_step (codes "::") ((whole_text names b ++ par_text par) ++ rest) r.next (sign 58 (58 ∷ []) ((whole_text names b ++ par_text par) ++ rest) k.Colons refl refl) in
        let s = f.1.reads k.Colons brackets c.left (par_text par ++ rest) (par_stops par rest stop) (parted (whole_text names b) (par_text par) rest c.next) in
        let q = par_step par rest f.2 stop s.ends s.next in
        record { left = q.left; what = tree_of.range r.what s.what q.what; is = (IsSpan.a_range (at_top source r.is.0) (takes c) (at_top source s.is.0) q.is, IsSpanTree.a_range r.is.1 s.is.1 q.spells); last = q.last; ends = q.ends; next = q.next };
  }

  abbrev pub SpansHave : List program.PlainSpan → Type 0
  SpansHave [] = Unit {0}
  SpansHave (s ∷ rest) = SpanHas s × SpansHave rest

  -- spans with commas between, before a bracket that closes
  pub spans_read : (s : program.PlainSpan) (all : List program.PlainSpan) → SpanHas s → SpansHave all → (before : TokenKind) (brackets : List TokenKind) (ts : List Token) (rest : Text)
      → From source false before brackets (spans_text names true (s ∷ all) ++ (codes ")" ++ rest)) ts → Reads source brackets (codes ")" ++ rest) (λ us xs. AreSpans source ts us xs × AreSpanTrees names (s ∷ all) xs)
  spans_read s [] f others before brackets ts rest h =
      let r = (span_reads s f).reads before brackets ts (codes ")" ++ rest) refl (parted (span_text names s) [] (codes ")" ++ rest) h) in
      record { left = r.left; what = r.what ∷ []; is = (AreSpans.last r.is.0, AreSpanTrees.more_spans r.is.1 AreSpanTrees.no_spans); last = r.last; ends = r.ends; next = r.next }
  spans_read s (next ∷ all) f others before brackets ts rest h =
      let more = spans_text names true (next ∷ all) in
      let r = (span_reads s f).reads before brackets ts (codes ", " ++ (more ++ (codes ")" ++ rest))) refl (parted (span_text names s) (codes ", " ++ more) (codes ")" ++ rest) h) in
      let c = token_step (codes ",") (codes " " ++ (more ++ (codes ")" ++ rest))) r.next (sign 44 [] (codes " " ++ (more ++ (codes ")" ++ rest))) k.Comma refl refl) in
      let q = spans_read next all others.0 others.1 k.Comma brackets c.left rest (blank_step (more ++ (codes ")" ++ rest)) c.next) in
      record { left = q.left; what = r.what ∷ q.what; is = (AreSpans.next r.is.0 (takes c) q.is.0, AreSpanTrees.more_spans r.is.1 q.is.1); last = q.last; ends = q.ends; next = q.next }

  -- ---- counters

  pub record CounterHas (c : program.PlainCounter) : Type 0 where
    pub from : ExprReads source names 0 c.from
    pub until : ExprReads source names 0 c.until
    pub step : IsCount c.step
    pub par : IsCount c.par

  abbrev IsCounterRead : program.PlainCounter → List Token → List Token → tree_of.PlainCounter → Type 0
  IsCounterRead c ts us x = IsCounter source ts us x × IsCounterTree names c x

  -- behind the bounds
  tail_text : program.PlainCounter → Text
  tail_text c = codes " by " ++ (decimal c.step ++ par_text c.par)

  counter_tail : (c : program.PlainCounter) → CounterHas c → (before : TokenKind) (brackets : List TokenKind) (ts us : List Token) (rest : Text) (a : Option tree.PlainExpr) (b : tree.PlainExpr) → stops rest ≡ true
      → AreBounds source ts us a b → IsFromTree names c.from a → Rattle.sp_printed.specs.Trees.IsTree names c.until b
      → From source false before brackets ((codes " by " ++ (decimal c.step ++ par_text c.par)) ++ rest) us → Reads source brackets rest (IsCounterRead c ts)
  counter_tail c f before brackets ts us rest a b stop bounds of_from of_until h =
      let word = codes " " ++ ((decimal c.step ++ par_text c.par) ++ rest) in
      let w = token_step (codes "by") word (blank_step (codes "by" ++ word) h) (keyword (codes "by") word k.By refl refl refl) in
      let n = count_step c.step (par_text c.par ++ rest) (omega (arith, f.step.1)) (par_stops c.par rest stop) (parted (decimal c.step) (par_text c.par) rest (blank_step ((decimal c.step ++ par_text c.par) ++ rest) w.next)) in
      let q = par_step c.par rest f.par stop refl n.next in
      record {
        left = q.left;
        what = record { from = a; until = b; step = c.step; par = q.what };
        is = (IsCounter.counter bounds (IsStep.by (takes w) (n.is 1 2147483647 f.step.0 (omega (arith, f.step.1)))) q.is, record { from = of_from; until = of_until; step = refl; par = q.spells });
        last = q.last;
        ends = q.ends;
        next = q.next;
      }

  counter_reads : (c : program.PlainCounter) → CounterHas c → Printed source (counter_text names c) (IsCounterRead c)
  counter_reads c f = go (is_zero c.from) refl
    where
      after : Text
      after = codes " by " ++ (decimal c.step ++ par_text c.par)

      go : (b : Bool) → is_zero c.from ≡ b → Printed source ((if b then [] else whole_text names c.from ++ codes " until ") ++ (whole_text names c.until ++ (codes " by " ++ (decimal c.step ++ par_text c.par)))) (IsCounterRead c)
      go true is = record {
        begins = λ rest stop. begins_left (whole_text names c.until) (codes " by " ++ (decimal c.step ++ par_text c.par)) rest (f.until.begins ((codes " by " ++ (decimal c.step ++ par_text c.par)) ++ rest) refl);
        reads = λ before brackets ts rest stop h.
            let tail = codes " by " ++ (decimal c.step ++ par_text c.par) in
            let r = f.until.reads before brackets ts (tail ++ rest) refl (parted (whole_text names c.until) tail rest h) in
            counter_tail c f r.last brackets ts r.left rest None r.what stop (AreBounds.upper (at_top source r.is.0)) (IsFromTree.from_zero is) r.is.1 r.next;
      }
      go false is = record {
        begins = λ rest stop.
            let tail = whole_text names c.until ++ (codes " by " ++ (decimal c.step ++ par_text c.par)) in
            begins_left (whole_text names c.from ++ codes " until ") tail rest (begins_left (whole_text names c.from) (codes " until ") (tail ++ rest) (f.from.begins (codes " until " ++ (tail ++ rest)) refl));
        reads = λ before brackets ts rest stop h.
            let tail = codes " by " ++ (decimal c.step ++ par_text c.par) in
            let second = whole_text names c.until ++ tail in
            let r = f.from.reads before brackets ts (codes " until " ++ (second ++ rest)) refl (parted (whole_text names c.from) (codes " until ") (second ++ rest) (parted (whole_text names c.from ++ codes " until ") second rest h)) in
            let u = token_step (codes "until") (codes " " ++ (second ++ rest)) (blank_step (codes "until " ++ (second ++ rest)) r.next) (keyword (codes "until") (codes " " ++ (second ++ rest)) k.Until refl refl refl) in
            let s = f.until.reads k.Until brackets u.left (tail ++ rest) refl (parted (whole_text names c.until) tail rest (blank_step (second ++ rest) u.next)) in
            counter_tail c f s.last brackets ts s.left rest (Some r.what) s.what stop (AreBounds.both (at_top source r.is.0) (takes u) (at_top source s.is.0)) (IsFromTree.from is r.is.1) s.is.1 s.next;
      }

  abbrev pub CountersHave : List program.PlainCounter → Type 0
  CountersHave [] = Unit {0}
  CountersHave (c ∷ rest) = CounterHas c × IsGoodName (counter_name names c.number) × CountersHave rest

  pub counters_read : (most : ℕ) (c : program.PlainCounter) (all : List program.PlainCounter) → length all ≤ most → CounterHas c → CountersHave all → (before : TokenKind) (brackets : List TokenKind) (ts : List Token) (rest : Text)
      → From source false before brackets (counters_text names true (c ∷ all) ++ (codes ")" ++ rest)) ts → Reads source brackets (codes ")" ++ rest) (λ us xs. AreCounters source (suc most) ts us xs × AreCounterTrees names (c ∷ all) xs)
  counters_read most c [] few f others before brackets ts rest h =
      let r = (counter_reads c f).reads before brackets ts (codes ")" ++ rest) refl (parted (counter_text names c) [] (codes ")" ++ rest) h) in
      record { left = r.left; what = r.what ∷ []; is = (AreCounters.last r.is.0, AreCounterTrees.more_counters r.is.1 AreCounterTrees.no_counters); last = r.last; ends = r.ends; next = r.next }
  counters_read zero c (next ∷ all) few f others before brackets ts rest h = absurd (omega (arith, few))
  counters_read (suc most) c (next ∷ all) few f others before brackets ts rest h =
      let more = counters_text names true (next ∷ all) in
      let r = (counter_reads c f).reads before brackets ts (codes ", " ++ (more ++ (codes ")" ++ rest))) refl (parted (counter_text names c) (codes ", " ++ more) (codes ")" ++ rest) h) in
      let m = token_step (codes ",") (codes " " ++ (more ++ (codes ")" ++ rest))) r.next (sign 44 [] (codes " " ++ (more ++ (codes ")" ++ rest))) k.Comma refl refl) in
      let q = counters_read most next all (omega (arith, few)) others.0 others.2 k.Comma brackets m.left rest (blank_step (more ++ (codes ")" ++ rest)) m.next) in
      record { left = q.left; what = r.what ∷ q.what; is = (AreCounters.next r.is.0 (takes m) q.is.0, AreCounterTrees.more_counters r.is.1 q.is.1); last = q.last; ends = q.ends; next = q.next }
