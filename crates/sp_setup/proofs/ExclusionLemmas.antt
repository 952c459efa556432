-- What a text and its files give isn't refused, and is one setup.
use Rattle.std.proofs.Common.{◌≡◌, ℕ, ◌+◌, ◌≤◌, List, [], ◌∷◌, ◌++◌, length, take, map, codes, Option, Some, None, String, option_to_list, refl, sym, subst, ap, ◌∙◌, inl, inr, arith, lit<}
use Rattle.std.proofs.lemmas.List.{length-take}
use Rattle.std.proofs.lemmas.List.Elements.{Contains-append_left, Contains-append_right}
use Rattle.std.specs.declared.alloc.Global.{Global}
use Rattle.toml.specs.Data.{Members}
use Rattle.csv.specs.Machine.{Read, next_record}
use Rattle.csv.specs.declared.parser.Config.{Config}
use Rattle.csv.specs.Reading.{Reached, default_config, strip_bom}
use Rattle.csv.specs.declared.parser.State.{State}
use Rattle.csv.specs.declared.parser.State.TheVariants as st
use Rattle.sp_edges.specs.Standing.{Standing, Holds, IsAllOf, BeginsWith}
use Rattle.sp_edges.specs.Calls.{Call}
use Rattle.sp_words.specs.Ports.{PlainPort, PlainPorts}
use Rattle.sp_setup.specs.declared.error.SetupError.{SetupError}
use Rattle.sp_setup.specs.declared.error.SetupEnd.{SetupEnd}
use Rattle.sp_setup.specs.declared.error.SetupEnd.TheVariants.{Refused, TooLong}
use Rattle.sp_setup.specs.Refusal.{Refusal, otherwise, plain_error}
use Rattle.sp_setup.specs.Checks.{dram_section, args_section, argument_word, integer_at, count_of, delay_items, delays_in}
use Rattle.sp_setup.specs.Cells.{record_check, records_check, file_words, FileGives, FileRefuses}
use Rattle.sp_setup.specs.Drams.{NamedGives, DramGives, AllGive, FirstEnds, NamedRefuses, IsPastFile, longest_file, file_of, files_of}
use Rattle.sp_setup.specs.Setup.{PlainSetup, IsSetup, SetupEnds, FileStops, files_in, files_named}
use Rattle.sp_setup.specs.Laws.{AreTold, named_first, named_in}

-- ---- records

-- the first records of a text are the first of all its records
first_of_all : (cfg : Config) (s : State) (xs : List ℕ) (a b : List (List (List ℕ))) (s2 s3 : State) (ys zs : List ℕ) → Reached cfg s xs a s2 ys → Reached cfg s xs b s3 zs
    → next_record cfg s3 [] [] zs ≡ None → (rest : List (List (List ℕ))) × (b ≡ a ++ rest)
unfolding Reached
first_of_all cfg s xs [] b s2 s3 ys zs first all end = (b, refl)
first_of_all cfg s xs (r ∷ a) [] s2 s3 ys zs first all end =
    let more = first.1 in
    let state = all.0 in
    let text = all.1 in
    absurd (cc)
first_of_all cfg s xs (r ∷ a) (q ∷ b) s2 s3 ys zs first all end =
    let p = first.0 in
    let one = first.1 in
    let two = all.1 in
    let same : all.0 ≡ first.0 = cc in
    let P : Read → Type 0 = λ read. Reached cfg read.1 read.2 b s3 zs in
    let rest = first_of_all cfg p.1 p.2 a b s2 s3 ys zs first.3 (subst P same all.3) end in
    let head : q ≡ r = all.2 ∙ ap (λ read. read.0) same ∙ sym first.2 in
    let tail = rest.1 in
    (rest.0, cc)

-- a text has one list of records
all_one : (cfg : Config) (s : State) (xs : List ℕ) (a b : List (List (List ℕ))) (s2 s3 : State) (ys zs : List ℕ) → Reached cfg s xs a s2 ys → next_record cfg s2 [] [] ys ≡ None
    → Reached cfg s xs b s3 zs → next_record cfg s3 [] [] zs ≡ None → a ≡ b
unfolding Reached
all_one cfg s xs [] [] s2 s3 ys zs first end second last = refl
all_one cfg s xs [] (q ∷ b) s2 s3 ys zs first end second last =
    let more = second.1 in
    let state = first.0 in
    let text = first.1 in
    absurd (cc)
all_one cfg s xs (r ∷ a) [] s2 s3 ys zs first end second last =
    let more = first.1 in
    let state = second.0 in
    let text = second.1 in
    absurd (cc)
all_one cfg s xs (r ∷ a) (q ∷ b) s2 s3 ys zs first end second last =
    let one = first.1 in
    let two = second.1 in
    let same : second.0 ≡ first.0 = cc in
    let P : Read → Type 0 = λ read. Reached cfg read.1 read.2 b s3 zs in
    let tail = all_one cfg first.0.1 first.0.2 a b s2 s3 ys zs first.3 end (subst P same second.3) last in
    let head : r ≡ q = first.2 ∙ ap (λ read. read.0) (sym same) ∙ sym second.2 in
    cc

-- a cell that refuses, refuses the file
records_front : (port : PlainPort) (row place : ℕ) (a rest : List (List (List ℕ))) (r : Refusal) → records_check port row place a ≡ Some r → records_check port row place (a ++ rest) ≡ Some r
unfolding records_check
records_front port row place [] rest r refuses = absurd (cc)
records_front port row place (x ∷ a) rest r refuses =
    front (record_check port row place x) (records_check port (row + 1) (place + length x) a) (records_check port (row + 1) (place + length x) (a ++ rest)) r refuses
    (records_front port (row + 1) (place + length x) a rest r)
  where
    front : (first second whole : Option Refusal) (r : Refusal) → otherwise first second ≡ Some r → (second ≡ Some r → whole ≡ Some r) → otherwise first whole ≡ Some r
    front None second whole r refuses next = next refuses
    front (Some f) second whole r refuses next = refuses

pub gives_or_refuses : (port : PlainPort) (bytes words : List ℕ) (r : Refusal) → FileGives port bytes words → FileRefuses port bytes r → ⊥
gives_or_refuses port bytes words r gives (inl cell) =
    let all = gives.all in
    let first = cell.first in
    let rest = first_of_all default_config st.StartRecord (strip_bom bytes) cell.records gives.records first.0 all.0 first.1 all.1 first.2 all.2 all.3 in
    let bad : records_check port 1 0 gives.records ≡ Some r = ap (records_check port 1 0) rest.1 ∙ records_front port 1 0 cell.records rest.0 r cell.refuses in
    let good = gives.passes in
    absurd (cc)
gives_or_refuses port bytes words r gives (inr size) =
    let all = gives.all in
    let other = size.all in
    let same : size.records ≡ gives.records = all_one default_config st.StartRecord (strip_bom bytes) size.records gives.records other.0 all.0 other.1 all.1 other.2 other.3 all.2 all.3 in
    size.count (ap (λ records. length (file_words port.ty records)) same ∙ ap length (sym gives.cells) ∙ gives.count)

-- ---- files

at_port : (told : List ℕ → Standing) (files : Members) (before after : List PlainPort) (port : PlainPort) (drams : List (List ℕ)) → AllGive told files (before ++ (port ∷ after)) drams
    → (words : List ℕ) × DramGives told (file_of files port) port words
unfolding AllGive
at_port told files [] after port [] give = absurd give
at_port told files [] after port (words ∷ drams) give = (words, give.0)
at_port told files (p ∷ before) after port [] give = absurd give
at_port told files (p ∷ before) after port (words ∷ drams) give = at_port told files before after port drams give.1

one_file : (standing : Standing) (held a b : List ℕ) → standing ≡ Holds held → IsAllOf standing a → IsAllOf standing b → a ≡ b
one_file standing held a b told first second =
    let P : List ℕ → Standing → Type 0 = λ bytes s. IsAllOf s bytes in
    let one : a ≡ held = subst (P a) told first in
    let two : b ≡ held = subst (P b) told second in
    one ∙ sym two

file_or_refusal : (standing : Standing) (held : List ℕ) (port : PlainPort) (words : List ℕ) (e : SetupError) → standing ≡ Holds held → NamedGives standing port words → NamedRefuses standing port (Refused e) → ⊥
file_or_refusal standing held port words e told gives refuses =
    let same : refuses.bytes ≡ gives.bytes = one_file standing held refuses.bytes gives.bytes told refuses.given.all gives.given.all in
    let P : List ℕ → Type 0 = λ bytes. FileRefuses port bytes (plain_error e) in
    gives_or_refuses port gives.bytes words (plain_error e) gives.gives (subst P same refuses.refuses)

-- no more bytes than those stand there
not_past : (standing : Standing) (held : List ℕ) (bytes : List ℕ) → standing ≡ Holds held → IsAllOf standing bytes → length bytes ≤ longest_file → IsPastFile standing → ⊥
not_past standing held bytes told all small past =
    let one : bytes ≡ held = subst (λ (s : Standing). IsAllOf s bytes) told all in
    let begins : past.bytes ≡ take (length past.bytes) held = subst (λ (s : Standing). BeginsWith s past.bytes) told past.begins in
    let long : length past.bytes ≡ longest_file + 1 = past.long in
    omega (arith, ap length one, ap length begins, length-take (length past.bytes) held)

module _ (told : List ℕ → Standing) where
  -- the words of the DRAM at which a reading ends, and what stands under the name of its file
  at_first : (failed : List ℕ → Type 0) (asked : List Call → Type 0) (files : Members) (ports : List PlainPort) (drams : List (List ℕ)) (end : SetupEnd) → AllGive told files ports drams
      → (first : FirstEnds told failed asked files ports end) → (words : List ℕ) × NamedGives (told first.name) first.port words
  at_first failed asked files ports drams end give first =
      let P : List PlainPort → Type 0 = λ all. AllGive told files all drams in
      let here = at_port told files first.reached.before first.reached.after first.port drams (subst P first.reached.stands give) in
      let Q : Option (List ℕ) → Type 0 = λ file. DramGives told file first.port here.0 in
      (here.0, subst Q first.named here.1)

  -- one document, so the DRAMs' words by the members at which the reading stops
  same_drams : (failed : List ℕ → Type 0) (asked : List Call → Type 0) (ports : PlainPorts) (bytes : List ℕ) (plain : PlainSetup) (end : SetupEnd) → IsSetup told ports bytes plain
      → (stops : FileStops told failed asked ports bytes end) → AllGive told (dram_section stops.top) ports.drams plain.drams
  same_drams failed asked ports bytes plain end is stops =
      let first = stops.document.document in
      let second = is.document.document in
      let same : is.top ≡ stops.top = cc in
      let P : Members → Type 0 = λ top. AllGive told (dram_section top) ports.drams plain.drams in
      subst P same is.drams

  pub gives_or_ends : (failed : List ℕ → Type 0) (asked : List Call → Type 0) (ports : PlainPorts) (bytes : List ℕ) (plain : PlainSetup) (e : SetupError)
      → AreTold told (files_named ports bytes) → IsSetup told ports bytes plain → SetupEnds told failed asked ports bytes (Refused e) → ⊥
  gives_or_ends failed asked ports bytes plain e held is (inl (made, inl none)) =
      let no = none.0 is.document.text in
      let some = is.document.document in
      absurd (cc)
  gives_or_ends failed asked ports bytes plain e held is (inl (made, inr table)) =
      let first = table.document.document in
      let second = is.document.document in
      let same : table.top ≡ is.top = cc in
      let passes = is.passes in
      let refuses = table.refuses in
      absurd (cc)
  gives_or_ends failed asked ports bytes plain e held is (inr stops) =
      let first = stops.ends in
      let named = named_in told failed asked ports bytes (Refused e) stops first.name (named_first told failed asked ports bytes (Refused e) stops.top first) in
      let there = held first.name named in
      let here = at_first failed asked (dram_section stops.top) ports.drams plain.drams (Refused e) (same_drams failed asked ports bytes plain (Refused e) is stops) first in
      file_or_refusal (told first.name) there.0 first.port here.0 e there.1 here.1 first.ends.1

  pub gives_or_past : (failed : List ℕ → Type 0) (asked : List Call → Type 0) (ports : PlainPorts) (bytes : List ℕ) (plain : PlainSetup) (name : String Global)
      → AreTold told (files_named ports bytes) → IsSetup told ports bytes plain → SetupEnds told failed asked ports bytes (TooLong name) → ⊥
  gives_or_past failed asked ports bytes plain name held is stops =
      let first = stops.ends in
      let named = named_in told failed asked ports bytes (TooLong name) stops first.name (named_first told failed asked ports bytes (TooLong name) stops.top first) in
      let there = held first.name named in
      let here = at_first failed asked (dram_section stops.top) ports.drams plain.drams (TooLong name) (same_drams failed asked ports bytes plain (TooLong name) is stops) first in
      not_past (told first.name) there.0 here.1.bytes there.1 here.1.given.all here.1.given.not_long first.ends.2

-- ---- one setup

-- one list of records, and so one list of words
words_one : (port : PlainPort) (bytes a b : List ℕ) → FileGives port bytes a → FileGives port bytes b → a ≡ b
words_one port bytes a b one other =
    let first = one.all in
    let second = other.all in
    let same : one.records ≡ other.records = all_one default_config st.StartRecord (strip_bom bytes) one.records other.records first.0 second.0 first.1 second.1 first.2 first.3 second.2 second.3 in
    one.cells ∙ ap (file_words port.ty) same ∙ sym other.cells

named_one : (standing : Standing) (held : List ℕ) (port : PlainPort) (a b : List ℕ) → standing ≡ Holds held → NamedGives standing port a → NamedGives standing port b → a ≡ b
named_one standing held port a b told one other =
    let same : one.bytes ≡ other.bytes = one_file standing held one.bytes other.bytes told one.given.all other.given.all in
    let P : List ℕ → Type 0 = λ bytes. FileGives port bytes a in
    words_one port other.bytes a b (subst P same one.gives) other.gives

module _ (told : List ℕ → Standing) where
  dram_one : (file : Option (List ℕ)) (port : PlainPort) (a b : List ℕ) → AreTold told (option_to_list file) → DramGives told file port a → DramGives told file port b → a ≡ b
  dram_one None port a b held one other = one ∙ sym other
  dram_one (Some name) port a b held one other =
      let there = held name (0, lit< tt, refl) in named_one (told name) there.0 port a b there.1 one other

  drams_one : (files : Members) (ports : List PlainPort) (a b : List (List ℕ)) → AreTold told (files_of files ports) → AllGive told files ports a → AllGive told files ports b → a ≡ b
  unfolding AllGive
  drams_one files [] [] [] held one other = refl
  drams_one files [] [] (w ∷ b) held one other = absurd other
  drams_one files [] (w ∷ a) b held one other = absurd one
  drams_one files (port ∷ ports) [] b held one other = absurd one
  drams_one files (port ∷ ports) (w ∷ a) [] held one other = absurd other
  drams_one files (port ∷ ports) (w ∷ a) (v ∷ b) held one other =
      let mine = option_to_list (file_of files port) in
      let rest = files_of files ports in
      let head : w ≡ v = dram_one (file_of files port) port w v (λ name there. held name (Contains-append_left mine rest name there)) one.0 other.0 in
      let tail : a ≡ b = drams_one files ports a b (λ name there. held name (Contains-append_right mine rest name there)) one.1 other.1 in
      cc

  pub setup_one : (ports : PlainPorts) (bytes : List ℕ) (one other : PlainSetup) → AreTold told (files_named ports bytes) → IsSetup told ports bytes one → IsSetup told ports bytes other → one ≡ other
  setup_one ports bytes one other held a b =
      let first = a.document.document in
      let second = b.document.document in
      let same : b.top ≡ a.top = cc in
      let P : Option Members → Type 0 = λ top. AreTold told (files_in ports top) in
      let files : AreTold told (files_of (dram_section a.top) ports.drams) = subst P first held in
      let Q : Members → Type 0 = λ top. AllGive told (dram_section top) ports.drams other.drams in
      let drams : one.drams ≡ other.drams = drams_one (dram_section a.top) ports.drams one.drams other.drams files a.drams (subst Q same b.drams) in
      let turns : one.turns ≡ other.turns = a.turns ∙ ap (λ top. count_of (integer_at (codes "turns") top)) (sym same) ∙ sym b.turns in
      let cycles : one.cycles ≡ other.cycles = a.cycles ∙ ap (λ top. count_of (integer_at (codes "cycles") top)) (sym same) ∙ sym b.cycles in
      let delays : one.delays ≡ other.delays = a.delays ∙ ap (λ top. delays_in (delay_items top)) (sym same) ∙ sym b.delays in
      let args : one.args ≡ other.args = a.args ∙ ap (λ top. map (argument_word (args_section top)) ports.args) (sym same) ∙ sym b.args in
      all_same one.turns other.turns one.cycles other.cycles one.delays other.delays one.args other.args one.drams other.drams turns cycles delays args drams
    where
      all_same : (t t2 c c2 : ℕ) (d d2 a a2 : List ℕ) (m m2 : List (List ℕ)) → t ≡ t2 → c ≡ c2 → d ≡ d2 → a ≡ a2 → m ≡ m2
          → (let x : PlainSetup = record { turns = t; cycles = c; delays = d; args = a; drams = m } in let y : PlainSetup = record { turns = t2; cycles = c2; delays = d2; args = a2; drams = m2 } in x ≡ y)
      all_same t t2 c c2 d d2 a a2 m m2 p q r u v = λ i. record { turns = p i; cycles = q i; delays = r i; args = u i; drams = v i }
