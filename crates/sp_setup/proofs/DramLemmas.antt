-- The DRAMs, one after another, and what is told of their files.
use Rattle.std.proofs.Common.{◌≡◌, ℕ, ◌+◌, ◌<◌, List, [], ◌∷◌, ◌++◌, map, take, drop, length, get_or, Option, Some, None, refl, sym, subst, ap, ◌∙◌, append_assoc, append-nil, option_to_list}
use Rattle.std.proofs.lemmas.List.{map-append, take_more, take-append-drop}
use Rattle.std.specs.Global.{Vec}
use Rattle.toml.specs.Data.{Members}
use Rattle.sp_edges.specs.Standing.{Standing}
use Rattle.sp_edges.specs.Calls.{Call, given, AreUnfaulted}
use Rattle.sp_words.specs.declared.interface.PortDecl.{PortDecl}
use Rattle.sp_words.specs.Ports.{PlainPort, plain_port}
use Rattle.sp_setup.proofs.Turns.{drop-turn}
use Rattle.sp_setup.specs.declared.error.SetupEnd.{SetupEnd}
use Rattle.sp_setup.specs.declared.error.SetupEnd.TheVariants.{Refused, ReadFault, TooLong, Memory}
use Rattle.sp_setup.specs.Laws.{NamedEnds-wide, AreUnfaulted-given, AreUnfaulted-more, files_of-append, WantsMemory-at}
use Rattle.sp_setup.specs.Drams.{NamedGives, DramGives, AllGive, NamedEnds, DramEnds, DramsEnd, file_of, files_of}

-- what is told of a file stays
pub DramGives-told : (now before : List ℕ → Standing) (file : Option (List ℕ)) (port : PlainPort) (words : List ℕ) → ((n : List ℕ) → now n ≡ before n)
    → DramGives now file port words → DramGives before file port words
DramGives-told now before None port words same gives = gives
DramGives-told now before (Some name) port words same gives =
    let P : Standing → Type 0 = λ standing. NamedGives standing port words in subst P (same name) gives

NamedEnds-told : (now before : Standing) (failed : Type 0) (asked : List Call → Type 0) (name : List ℕ) (port : PlainPort) (end : SetupEnd) → now ≡ before
    → NamedEnds now failed asked name port end → NamedEnds before failed asked name port end
NamedEnds-told now before failed asked name port end same ends =
    let P : Standing → Type 0 = λ standing. NamedEnds standing failed asked name port end in subst P same ends

-- one more DRAM gives its words
pub AllGive-push : (told : List ℕ → Standing) (files : Members) (ports : List PlainPort) (port : PlainPort) (drams : List (List ℕ)) (words : List ℕ)
    → AllGive told files ports drams → DramGives told (file_of files port) port words → AllGive told files (ports ++ (port ∷ [])) (drams ++ (words ∷ []))
unfolding AllGive
AllGive-push told files [] port [] words all gives = (gives, tt)
AllGive-push told files [] port (d ∷ drams) words all gives = absurd all
AllGive-push told files (p ∷ ports) port [] words all gives = absurd all
AllGive-push told files (p ∷ ports) port (d ∷ drams) words all gives = (all.0, AllGive-push told files ports port drams words all.1 gives)

pub AllGive-none : (told : List ℕ → Standing) (files : Members) → AllGive told files [] []
unfolding AllGive
AllGive-none told files = tt

-- the DRAM at which the reading ended is the first one
pub DramsEnd-first : (now told : List ℕ → Standing) (failed_now failed : List ℕ → Type 0) (asked_now asked : List Call → Type 0) (files : Members) (before after : List PlainPort) (port : PlainPort)
    (drams : List (List ℕ)) (end : SetupEnd) → ((n : List ℕ) → now n ≡ told n) → ((n : List ℕ) → failed_now n → failed n)
    → ((calls : List Call) → asked_now calls → asked (map given (files_of files before) ++ calls))
    → AllGive told files before drams → (file : Option (List ℕ)) → file ≡ file_of files port → DramEnds now failed_now asked_now file port end
    → DramsEnd told failed asked files (before ++ (port ∷ after)) end
DramsEnd-first now told failed_now failed asked_now asked files before after port drams (Refused e) same wide more all None is ends = absurd ends.0
DramsEnd-first now told failed_now failed asked_now asked files before after port drams ReadFault same wide more all None is ends = absurd ends.0
DramsEnd-first now told failed_now failed asked_now asked files before after port drams (TooLong text) same wide more all None is ends = absurd ends.0
DramsEnd-first now told failed_now failed asked_now asked files before after port drams Memory same wide more all None is ends =
    WantsMemory-at asked_now asked files before after port None is more ([], tt, ends.1)
DramsEnd-first now told failed_now failed asked_now asked files before after port drams (Refused e) same wide more all (Some name) is ends = record {
  port = port;
  name = name;
  reached = record { before = before; after = after; words = drams; stands = refl; given = all };
  named = sym is;
  ends = NamedEnds-wide (told name) (failed_now name) (failed name) asked_now (λ calls. asked (map given (files_of files before) ++ calls)) name port (Refused e) (wide name) more
      (NamedEnds-told (now name) (told name) (failed_now name) asked_now name port (Refused e) (same name) ends);
}
DramsEnd-first now told failed_now failed asked_now asked files before after port drams ReadFault same wide more all (Some name) is ends = record {
  port = port;
  name = name;
  reached = record { before = before; after = after; words = drams; stands = refl; given = all };
  named = sym is;
  ends = NamedEnds-wide (told name) (failed_now name) (failed name) asked_now (λ calls. asked (map given (files_of files before) ++ calls)) name port ReadFault (wide name) more
      (NamedEnds-told (now name) (told name) (failed_now name) asked_now name port ReadFault (same name) ends);
}
DramsEnd-first now told failed_now failed asked_now asked files before after port drams (TooLong text) same wide more all (Some name) is ends = record {
  port = port;
  name = name;
  reached = record { before = before; after = after; words = drams; stands = refl; given = all };
  named = sym is;
  ends = NamedEnds-wide (told name) (failed_now name) (failed name) asked_now (λ calls. asked (map given (files_of files before) ++ calls)) name port (TooLong text) (wide name) more
      (NamedEnds-told (now name) (told name) (failed_now name) asked_now name port (TooLong text) (same name) ends);
}
DramsEnd-first now told failed_now failed asked_now asked files before after port drams Memory same wide more all (Some name) is ends =
    WantsMemory-at asked_now asked files before after port (Some name) is more ends

-- want of memory after the words of a DRAM
pub DramsEnd-memory : (told : List ℕ → Standing) (failed : List ℕ → Type 0) (asked : List Call → Type 0) (files : Members) (before after : List PlainPort) (port : PlainPort)
    → asked (map given (files_of files before) ++ map given (option_to_list (file_of files port))) → DramsEnd told failed asked files (before ++ (port ∷ after)) Memory
DramsEnd-memory told failed asked files before after port made =
    let names : List (List ℕ) = files_of files before ++ option_to_list (file_of files port) in
    let some : AreUnfaulted (names ++ []) (map given names ++ []) = AreUnfaulted-given names [] [] tt in
    let P : List Call → Type 0 = λ calls. AreUnfaulted (names ++ []) calls in
    let Q : List (List ℕ) → Type 0 = λ all. AreUnfaulted all (map given names) in
    let here : AreUnfaulted names (map given names) = subst Q (append-nil names) (subst P (append-nil (map given names)) some) in
    let all : AreUnfaulted (names ++ files_of files after) (map given names) = AreUnfaulted-more names (files_of files after) (map given names) here in
    let R : List Call → Type 0 = λ calls. asked calls in (
      map given names,
      subst Q (append_assoc (files_of files before) (option_to_list (file_of files port)) (files_of files after) ∙ sym (files_of-append files before (port ∷ after))) all,
      subst R (sym (map-append given (files_of files before) (option_to_list (file_of files port)))) made,
    )

-- the files of the DRAMs before a place and of the one there
pub files_of-push : (files : Members) (before : List PlainPort) (port : PlainPort) → map given (files_of files (before ++ (port ∷ []))) ≡ map given (files_of files before) ++ map given (option_to_list (file_of files port))
files_of-push files before port =
    ap (map given) (files_of-append files before (port ∷ []) ∙ ap (λ names. files_of files before ++ names) (append-nil (option_to_list (file_of files port))))
    ∙ map-append given (files_of files before) (option_to_list (file_of files port))

-- the ports before a place, the one there and those after it
pub ports-at : (ports : List PortDecl) (i : ℕ) (port : PortDecl) → i < length ports → port ≡ get_or ports i port
    → map plain_port ports ≡ map plain_port (take i ports) ++ (plain_port port ∷ map plain_port (drop (i + 1) ports))
ports-at ports i port h e =
    let turn = drop-turn ports i port h e in
    let whole : take i ports ++ (port ∷ drop (i + 1) ports) ≡ ports = ap (λ rest. take i ports ++ rest) (sym turn) ∙ take-append-drop i ports in
    ap (map plain_port) (sym whole) ∙ map-append plain_port (take i ports) (port ∷ drop (i + 1) ports)

pub ports-more : (ports : List PortDecl) (i : ℕ) (port : PortDecl) → i < length ports → port ≡ get_or ports i port
    → map plain_port (take (i + 1) ports) ≡ map plain_port (take i ports) ++ (plain_port port ∷ [])
ports-more ports i port h e =
    ap (map plain_port) (take_more ports i port h ∙ ap (λ p. take i ports ++ (p ∷ [])) (sym e)) ∙ map-append plain_port (take i ports) (port ∷ [])

pub AllGive-more : (told : List ℕ → Standing) (files : Members) (ports more : List PlainPort) (port : PlainPort) (old new : List (Vec ℕ)) (words : Vec ℕ)
    → more ≡ ports ++ (port ∷ []) → new ≡ old ++ (words ∷ []) → AllGive told files ports (map (λ (ws : Vec ℕ). ws.items) old) → DramGives told (file_of files port) port words.items
    → AllGive told files more (map (λ (ws : Vec ℕ). ws.items) new)
AllGive-more told files ports more port old new words e f all gives =
    let drams : map (λ (ws : Vec ℕ). ws.items) new ≡ map (λ (ws : Vec ℕ). ws.items) old ++ (words.items ∷ []) =
    ap (map (λ (ws : Vec ℕ). ws.items)) f ∙ map-append (λ (ws : Vec ℕ). ws.items) old (words ∷ []) in
    let P : List PlainPort → Type 0 = λ ports. AllGive told files ports (map (λ (ws : Vec ℕ). ws.items) new) in
    let Q : List (List ℕ) → Type 0 = λ drams. AllGive told files (ports ++ (port ∷ [])) drams in
    subst P (sym e) (subst Q (sym drams) (AllGive-push told files ports port (map (λ (ws : Vec ℕ). ws.items) old) words.items all gives))
