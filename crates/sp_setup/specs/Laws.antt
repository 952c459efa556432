-- How the reading of a setup ends, seen over a longer time: what may have failed and which calls were made.
use Rattle.std.specs.Prelude.{◌≡◌, ◌≢◌, ℕ, List, [], ◌∷◌, ◌++◌, map, option_to_list, Option, Some, Ok, Err, String, Contains, refl}
use Rattle.std.proofs.Common.{inl, inr, subst, sym, ap, ◌∙◌, append_assoc, lit<}
use Rattle.std.proofs.lemmas.List.Elements.{Contains-append_left, Contains-append_right}
use Rattle.std.specs.declared.alloc.Global.{Global}
use Rattle.toml.specs.Data.{Members}
use Rattle.sp_edges.specs.Standing.{Standing, Holds}
use Rattle.sp_edges.specs.Calls.{Call, given, refused, AreUnfaulted, WantsMemory}
use Rattle.sp_edges.specs.declared.input.InputFault.TheVariants as fault
use Rattle.sp_setup.specs.declared.error.SetupError.{SetupError}
use Rattle.sp_words.specs.Ports.{PlainPort, PlainPorts}
use Rattle.sp_setup.specs.declared.error.SetupEnd.{SetupEnd}
use Rattle.sp_setup.specs.declared.error.SetupEnd.TheVariants.{Refused, ReadFault, TooLong, Memory}
use Rattle.sp_setup.specs.Drams.{NamedEnds, FirstEnds, DramsEnd, file_of, files_of}
use Rattle.sp_setup.specs.Checks.{dram_section}
use Rattle.sp_setup.specs.Setup.{FileStops, SetupEnds, PlainSetup, IsSetup, files_in, files_named}

pub WantsMemory-wide : (now then : List Call → Type 0) (names : List (List ℕ)) → ((calls : List Call) → now calls → then calls) → WantsMemory now names → WantsMemory then names
WantsMemory-wide now then names wide wants = (wants.0, wants.1, wide wants.0 wants.2)

-- what may have failed, and which calls were made, by a longer time
pub NamedEnds-wide : (standing : Standing) (now before : Type 0) (asked_now asked : List Call → Type 0) (name : List ℕ) (port : PlainPort) (end : SetupEnd) → (now → before)
    → ((calls : List Call) → asked_now calls → asked calls)
    → NamedEnds standing now asked_now name port end → NamedEnds standing before asked name port end
NamedEnds-wide standing now before asked_now asked name port (Refused e) wide more ends = (more _ ends.0, ends.1)
NamedEnds-wide standing now before asked_now asked name port ReadFault wide more ends = (more _ ends.0, wide ends.1)
NamedEnds-wide standing now before asked_now asked name port (TooLong text) wide more ends = (more _ ends.0, ends.1, ends.2)
NamedEnds-wide standing now before asked_now asked name port Memory wide more ends = WantsMemory-wide asked_now asked _ more ends

-- calls after others that gave
pub AreUnfaulted-given : (before names : List (List ℕ)) (calls : List Call) → AreUnfaulted names calls → AreUnfaulted (before ++ names) (map given before ++ calls)
AreUnfaulted-given [] names calls some = some
AreUnfaulted-given (b ∷ []) names [] some = (refl, λ (same : Ok tt ≡ Err fault.Failed). cc)
AreUnfaulted-given (b ∷ []) names (call ∷ calls) some = (refl, some)
AreUnfaulted-given (b ∷ (next ∷ before)) names calls some = (refl, AreUnfaulted-given (next ∷ before) names calls some)

pub AreUnfaulted-more : (names more : List (List ℕ)) (calls : List Call) → AreUnfaulted names calls → AreUnfaulted (names ++ more) calls
AreUnfaulted-more names more [] some = tt
AreUnfaulted-more [] more (call ∷ calls) some = absurd some
AreUnfaulted-more (name ∷ names) more (call ∷ []) some = some
AreUnfaulted-more (name ∷ names) more (call ∷ (next ∷ calls)) some = (some.0, AreUnfaulted-more names more (next ∷ calls) some.1)

-- the files of the DRAMs before a place, the one there and those after it
pub files_of-append : (files : Members) (before after : List PlainPort) → files_of files (before ++ after) ≡ files_of files before ++ files_of files after
files_of-append files [] after = refl
files_of-append files (port ∷ before) after =
    ap (λ names. option_to_list (file_of files port) ++ names) (files_of-append files before after) ∙ sym (append_assoc (option_to_list (file_of files port)) (files_of files before) (files_of files after))

-- want of memory at a DRAM, after those before it
pub WantsMemory-at : (asked_now asked : List Call → Type 0) (files : Members) (before after : List PlainPort) (port : PlainPort) (file : Option (List ℕ)) → file ≡ file_of files port
    → ((calls : List Call) → asked_now calls → asked (map given (files_of files before) ++ calls))
    → WantsMemory asked_now (option_to_list file) → WantsMemory asked (files_of files (before ++ (port ∷ after)))
WantsMemory-at asked_now asked files before after port file is more wants =
    let names : List (List ℕ) = option_to_list (file_of files port) in
    let calls : List Call = map given (files_of files before) ++ wants.0 in
    let here : AreUnfaulted names wants.0 = let P : Option (List ℕ) → Type 0 = λ f. AreUnfaulted (option_to_list f) wants.0 in subst P is wants.1 in
    let some : AreUnfaulted (files_of files before ++ (names ++ files_of files after)) calls =
    AreUnfaulted-given (files_of files before) (names ++ files_of files after) wants.0 (AreUnfaulted-more names (files_of files after) wants.0 here) in
    let P : List (List ℕ) → Type 0 = λ all. AreUnfaulted all calls in
    (calls, subst P (sym (files_of-append files before (port ∷ after))) some, more wants.0 wants.2)

module _ (told : List ℕ → Standing) (failed_now failed : List ℕ → Type 0) (asked_now asked : List Call → Type 0)
    (wide : (n : List ℕ) → failed_now n → failed n) (more : (calls : List Call) → asked_now calls → asked calls) where
  FirstEnds-wide : (files : Members) (ports : List PlainPort) (end : SetupEnd) → FirstEnds told failed_now asked_now files ports end → FirstEnds told failed asked files ports end
  FirstEnds-wide files ports end first = record {
    port = first.port;
    name = first.name;
    reached = first.reached;
    named = first.named;
    ends = NamedEnds-wide (told first.name) (failed_now first.name) (failed first.name) (λ calls. asked_now (map given (files_of files first.reached.before) ++ calls))
        (λ calls. asked (map given (files_of files first.reached.before) ++ calls)) first.name first.port end (wide first.name) (λ calls made. more _ made) first.ends;
  }

  DramsEnd-wide : (files : Members) (ports : List PlainPort) (end : SetupEnd) → DramsEnd told failed_now asked_now files ports end → DramsEnd told failed asked files ports end
  DramsEnd-wide files ports (Refused e) ends = FirstEnds-wide files ports (Refused e) ends
  DramsEnd-wide files ports ReadFault ends = FirstEnds-wide files ports ReadFault ends
  DramsEnd-wide files ports (TooLong text) ends = FirstEnds-wide files ports (TooLong text) ends
  DramsEnd-wide files ports Memory ends = WantsMemory-wide asked_now asked _ more ends

  FileStops-wide : (ports : PlainPorts) (bytes : List ℕ) (end : SetupEnd) → FileStops told failed_now asked_now ports bytes end → FileStops told failed asked ports bytes end
  FileStops-wide ports bytes end stops = record { top = stops.top; document = stops.document; passes = stops.passes; ends = DramsEnd-wide _ _ end stops.ends }

  pub SetupEnds-wide : (ports : PlainPorts) (bytes : List ℕ) (end : SetupEnd) → SetupEnds told failed_now asked_now ports bytes end → SetupEnds told failed asked ports bytes end
  SetupEnds-wide ports bytes (Refused e) (inl text) = inl (more _ text.0, text.1)
  SetupEnds-wide ports bytes (Refused e) (inr stops) = inr (FileStops-wide ports bytes (Refused e) stops)
  SetupEnds-wide ports bytes ReadFault stops = FileStops-wide ports bytes ReadFault stops
  SetupEnds-wide ports bytes (TooLong name) stops = FileStops-wide ports bytes (TooLong name) stops
  SetupEnds-wide ports bytes Memory (inl none) = inl (more _ none)
  SetupEnds-wide ports bytes Memory (inr stops) = inr (FileStops-wide ports bytes Memory stops)

-- what is told of each name decides, whenever it is told
module _ (now told : List ℕ → Standing) (same : (n : List ℕ) → now n ≡ told n) where
  tells_one : now ≡ told
  tells_one = λ i n. same n i

  pub SetupEnds-told : (failed : List ℕ → Type 0) (asked : List Call → Type 0) (ports : PlainPorts) (bytes : List ℕ) (end : SetupEnd)
      → SetupEnds now failed asked ports bytes end → SetupEnds told failed asked ports bytes end
  SetupEnds-told failed asked ports bytes end ends =
      let P : (List ℕ → Standing) → Type 0 = λ t. SetupEnds t failed asked ports bytes end in subst P tells_one ends

  pub IsSetup-told : (ports : PlainPorts) (bytes : List ℕ) (plain : PlainSetup) → IsSetup now ports bytes plain → IsSetup told ports bytes plain
  IsSetup-told ports bytes plain is =
      let P : (List ℕ → Standing) → Type 0 = λ t. IsSetup t ports bytes plain in subst P tells_one is

-- where a file refuses, or is too long, want of memory could have come in its place
module _ (told : List ℕ → Standing) (failed : List ℕ → Type 0) (asked : List Call → Type 0) where
  FirstEnds-memory : (files : Members) (ports : List PlainPort) (end : SetupEnd) (first : FirstEnds told failed asked files ports end) (call : Call) → call.name ≡ first.name → call.answer ≢ Err fault.Failed
      → asked (map given (files_of files first.reached.before) ++ (call ∷ [])) → WantsMemory asked (files_of files ports)
  FirstEnds-memory files ports end first call named fine made =
      let P : List PlainPort → Type 0 = λ all. WantsMemory asked (files_of files all) in
      subst P (sym first.reached.stands)
      (WantsMemory-at (λ calls. asked (map given (files_of files first.reached.before) ++ calls)) asked files first.reached.before first.reached.after first.port (Some first.name) (sym first.named)
      (λ calls there. there) (call ∷ [], (named, fine), made))

  pub SetupEnds-refused : (ports : PlainPorts) (bytes : List ℕ) (e : SetupError) → SetupEnds told failed asked ports bytes (Refused e) → SetupEnds told failed asked ports bytes Memory
  SetupEnds-refused ports bytes e (inl text) = inl text.0
  SetupEnds-refused ports bytes e (inr stops) =
      inr (record {
        top = stops.top;
        document = stops.document;
        passes = stops.passes;
        ends = FirstEnds-memory _ _ (Refused e) stops.ends (given stops.ends.name) refl (λ (same : Ok tt ≡ Err fault.Failed). cc) stops.ends.ends.0;
      })

  pub SetupEnds-too_long : (ports : PlainPorts) (bytes : List ℕ) (name : String Global) → SetupEnds told failed asked ports bytes (TooLong name) → SetupEnds told failed asked ports bytes Memory
  SetupEnds-too_long ports bytes name stops =
      inr (record {
        top = stops.top;
        document = stops.document;
        passes = stops.passes;
        ends = FirstEnds-memory _ _ (TooLong name) stops.ends (refused stops.ends.name fault.TooLong) refl (λ same. cc) stops.ends.ends.0;
      })

-- ---- the files that are named

-- what stands under each of these names is told
abbrev pub AreTold : (List ℕ → Standing) → List (List ℕ) → Type 0
AreTold told names = (name : List ℕ) → Contains names name → (held : List ℕ) × (told name ≡ Holds held)

-- the file of a DRAM is one of those of the DRAMs around it
pub Contains-file : (files : Members) (before after : List PlainPort) (port : PlainPort) (name : List ℕ) → file_of files port ≡ Some name
    → Contains (files_of files (before ++ (port ∷ after))) name
Contains-file files before after port name is =
    let one : Contains (name ∷ []) name = (0, lit< tt, refl) in
    let P : Option (List ℕ) → Type 0 = λ file. Contains (option_to_list file) name in
    let here : Contains (option_to_list (file_of files port)) name = subst P (sym is) one in
    let more : Contains (files_of files (port ∷ after)) name = Contains-append_left (option_to_list (file_of files port)) (files_of files after) name here in
    let Q : List (List ℕ) → Type 0 = λ all. Contains all name in
    subst Q (sym (files_of-append files before (port ∷ after))) (Contains-append_right (files_of files before) (files_of files (port ∷ after)) name more)

-- the file at which a reading ends is one that the document names
module _ (told : List ℕ → Standing) (failed : List ℕ → Type 0) (asked : List Call → Type 0) (ports : PlainPorts) (bytes : List ℕ) (end : SetupEnd) where
  pub named_first : (top : Members) (first : FirstEnds told failed asked (dram_section top) ports.drams end) → Contains (files_of (dram_section top) ports.drams) first.name
  named_first top first =
      let Q : List PlainPort → Type 0 = λ all. Contains (files_of (dram_section top) all) first.name in
      subst Q (sym first.reached.stands) (Contains-file (dram_section top) first.reached.before first.reached.after first.port first.name first.named)

  pub named_in : (stops : FileStops told failed asked ports bytes end) (name : List ℕ) → Contains (files_of (dram_section stops.top) ports.drams) name → Contains (files_named ports bytes) name
  named_in stops name there =
      let P : Option Members → Type 0 = λ top. Contains (files_in ports top) name in subst P (sym stops.document.document) there

-- Where a file couldn't be read, that was one which the document names.
pub SetupEnds-read_fault : (told : List ℕ → Standing) (failed : List ℕ → Type 0) (asked : List Call → Type 0) (ports : PlainPorts) (bytes : List ℕ)
    → SetupEnds told failed asked ports bytes ReadFault → (name : List ℕ) × Contains (files_named ports bytes) name × failed name
SetupEnds-read_fault told failed asked ports bytes stops =
    (stops.ends.name, named_in told failed asked ports bytes ReadFault stops stops.ends.name (named_first told failed asked ports bytes ReadFault stops.top stops.ends), stops.ends.ends.1)
