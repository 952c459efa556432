-- What the sinks gained in a call, by its status.
use Rattle.std.specs.Prelude.{◌≡◌, ℕ, ◌<◌, ◌⊎◌, List, [], ◌∷◌, length, Option}
use Rattle.sp_edges.specs.Counts.{Rose}
use Rattle.sp_edges.specs.Gained.{Gained, GainedPart, GainedNothing}
use Rattle.sp_edges.specs.Pieces.{AreFirstPieces, ArePieces}
use Rattle.sp_top.specs.declared.status.SinkName.TheVariants.{Out, Aside}
use Rattle.sp_top.specs.Status.{PlainStatus, done, write_fault, memory, line_of, HasParts}

-- a sink before and after a call: the bytes that it took, where it tells them; how often it failed; the room that
-- it was sure of before the call; and of pieces, that these were put in the call, in order
pub record SinkChange : Type 1 where
  pub before : Option (List ℕ)
  pub after : Option (List ℕ)
  pub faults_before : ℕ
  pub faults_after : ℕ
  pub room : ℕ
  pub put : List (List ℕ) → Type 0

-- the sink took the whole text, in its pieces
pub record Took (sink : SinkChange) (text : List ℕ) : Type 0 where
  pub gained : Gained sink.before sink.after text
  pub pieces : List (List ℕ)
  pub are : ArePieces text pieces
  pub put : sink.put pieces

-- it took the whole line, in one piece
abbrev pub TookLine : SinkChange → List ℕ → Type 0
TookLine sink line = Gained sink.before sink.after line × sink.put (line ∷ [])

-- it was not used
abbrev pub TookNothing : SinkChange → Type 0
TookNothing sink = GainedNothing sink.before sink.after × sink.put []

-- the sink failed in the call, and took some first bytes of a text that was longer than its sure room
pub record TookPart (sink : SinkChange) (text : List ℕ) : Type 0 where
  pub part : GainedPart sink.before sink.after text
  pub failed : Rose sink.faults_before sink.faults_after
  pub past_room : sink.room < length text

-- the first pieces of the text were put, and nothing after the one that failed
abbrev pub PutFirst : SinkChange → List ℕ → Type 0
PutFirst sink text = (pieces : List (List ℕ)) × (rest : List ℕ) × AreFirstPieces text pieces rest × sink.put pieces

-- what the text of a status was put as: that of a command in its pieces, the line of a refusal in one
abbrev pub TookWhole : PlainStatus → SinkChange → List ℕ → Type 0
TookWhole done sink text = Took sink text
TookWhole status sink line = TookLine sink line

abbrev pub PutPart : PlainStatus → SinkChange → List ℕ → Type 0
PutPart done sink text = PutFirst sink text
PutPart status sink line = sink.put (line ∷ [])

-- A line was put as one piece: the sink took it, and the status stays, or the sink failed.
abbrev pub Puts : (status result : PlainStatus) → List ℕ → SinkChange → Type 0
Puts status result line out =
    ((result ≡ status) × TookLine out line) ⊎ ((result ≡ write_fault Out) × TookPart out line × out.put (line ∷ []))

-- Where a refusal with this status ends: its line is put on `out`, or the line of want of memory where the line
-- has parts and could not be built.
abbrev pub Refuses : (status result : PlainStatus) → SinkChange → Type 0
Refuses status result out =
    (said : PlainStatus) × ((said ≡ status) ⊎ (HasParts status × (said ≡ memory)))
    × Puts said result (line_of said) out

-- Where the putting of a command's texts ends: `aside` takes its text first, then `out`.
abbrev pub Delivers : (result : PlainStatus) → (out_text aside_text : List ℕ) → SinkChange → SinkChange → Type 0
Delivers done out_text aside_text out aside = Took aside aside_text × Took out out_text
Delivers (write_fault Aside) out_text aside_text out aside = TookPart aside aside_text × PutFirst aside aside_text × TookNothing out
Delivers (write_fault Out) out_text aside_text out aside = Took aside aside_text × TookPart out out_text × PutFirst out out_text
Delivers status out_text aside_text out aside = ⊥

-- What a call may end in: a status, with the texts for `out` and for `aside` that belong to it.
abbrev pub Ends : Type 1
Ends = PlainStatus → (out aside : List ℕ) → Type 0

-- What the sinks gained, where a call may end so. A text is put on `aside` wholly before one is put on `out`, and
-- after a piece that failed nothing more is put anywhere.
abbrev pub Records : Ends → SinkChange → SinkChange → PlainStatus → Type 0
Records may out aside (write_fault Aside) =
    (out_text : List ℕ) × (aside_text : List ℕ) × may done out_text aside_text × TookPart aside aside_text × PutFirst aside aside_text × TookNothing out
Records may out aside (write_fault Out) =
    (status : PlainStatus) × (out_text : List ℕ) × (aside_text : List ℕ) × may status out_text aside_text × Took aside aside_text × TookPart out out_text × PutPart status out out_text
Records may out aside status =
    (out_text : List ℕ) × (aside_text : List ℕ) × may status out_text aside_text × TookWhole status out out_text × Took aside aside_text
