-- From what a part of a call did to what the whole call records.
use Rattle.std.proofs.Common.{◌≡◌, refl, sym, ap, subst, ℕ, List, [], ◌∷◌, inl, inr}
use Rattle.std.specs.Prelude.{Option, Some, None}
use Rattle.std.proofs.lemmas.List.{append-nil}
use Rattle.sp_edges.specs.Gained.{Gained}
use Rattle.sp_top.specs.declared.status.SinkName.{SinkName}
use Rattle.sp_top.specs.declared.status.SinkName.TheVariants.{Out, Aside}
use Rattle.sp_top.specs.Status.{PlainStatus, done, words, setup_refused, read_fault, write_fault, memory, listing_refused, conflict, cycles_spent, stopped_at, turns_spent, too_long, unbuilt, source_refused, line_of, HasParts}
use Rattle.sp_top.specs.Record.{SinkChange, Took, TookLine, TookNothing, PutPart, Puts, Refuses, Delivers, Ends, Records}

-- a sink that wasn't used gained nothing
pub Gained-same : (taken : Option (List ℕ)) → Gained taken taken []
Gained-same None = tt
Gained-same (Some taken) = ap Some (sym (append-nil taken))

-- a command's texts were delivered
pub delivered : (may : Ends) (result : PlainStatus) (out_text aside_text : List ℕ) (out aside : SinkChange)
    → may done out_text aside_text → Delivers result out_text aside_text out aside → Records may out aside result
delivered may done out_text aside_text out aside ends took = (out_text, aside_text, ends, took.1, took.0)
delivered may (write_fault Out) out_text aside_text out aside ends took = (done, out_text, aside_text, ends, took.0, took.1, took.2)
delivered may (write_fault Aside) out_text aside_text out aside ends took = (out_text, aside_text, ends, took.0, took.1, took.2)
delivered may words out_text aside_text out aside ends took = absurd took
delivered may (setup_refused refusal) out_text aside_text out aside ends took = absurd took
delivered may (listing_refused error) out_text aside_text out aside ends took = absurd took
delivered may (conflict cycle bank port) out_text aside_text out aside ends took = absurd took
delivered may (cycles_spent cycles) out_text aside_text out aside ends took = absurd took
delivered may (stopped_at kind at) out_text aside_text out aside ends took = absurd took
delivered may (turns_spent turns) out_text aside_text out aside ends took = absurd took
delivered may read_fault out_text aside_text out aside ends took = absurd took
delivered may memory out_text aside_text out aside ends took = absurd took
delivered may (too_long name) out_text aside_text out aside ends took = absurd took
delivered may (source_refused error) out_text aside_text out aside ends took = absurd took
delivered may (unbuilt line) out_text aside_text out aside ends took = absurd took

-- no call ends as a text whose put failed
abbrev pub NoFault : Ends → Type 0
NoFault may = (which : SinkName) (out_text aside_text : List ℕ) → may (write_fault which) out_text aside_text → ⊥

-- a sink that wasn't used took nothing, which is an empty text
took_none : (sink : SinkChange) → TookNothing sink → Took sink []
took_none sink nothing = record { gained = nothing.0; pieces = []; are = refl; put = nothing.1 }

-- a refusal is no command that is done
abbrev pub NotDone : PlainStatus → Type 0
NotDone status = status ≡ done → ⊥

took_line : (may : Ends) (said : PlainStatus) (out aside : SinkChange) → NoFault may → NotDone said → may said (line_of said) [] → TookNothing aside → TookLine out (line_of said)
    → Records may out aside said
took_line may done out aside none undone ends nothing took = absurd (undone refl)
took_line may words out aside none undone ends nothing took = (line_of words, [], ends, took, took_none aside nothing)
took_line may (setup_refused refusal) out aside none undone ends nothing took = (line_of (setup_refused refusal), [], ends, took, took_none aside nothing)
took_line may (listing_refused error) out aside none undone ends nothing took = (line_of (listing_refused error), [], ends, took, took_none aside nothing)
took_line may (conflict cycle bank port) out aside none undone ends nothing took = (line_of (conflict cycle bank port), [], ends, took, took_none aside nothing)
took_line may (cycles_spent cycles) out aside none undone ends nothing took = (line_of (cycles_spent cycles), [], ends, took, took_none aside nothing)
took_line may (stopped_at kind at) out aside none undone ends nothing took = (line_of (stopped_at kind at), [], ends, took, took_none aside nothing)
took_line may (turns_spent turns) out aside none undone ends nothing took = (line_of (turns_spent turns), [], ends, took, took_none aside nothing)
took_line may read_fault out aside none undone ends nothing took = (line_of read_fault, [], ends, took, took_none aside nothing)
took_line may (write_fault which) out aside none undone ends nothing took = absurd (none which _ _ ends)
took_line may memory out aside none undone ends nothing took = (line_of memory, [], ends, took, took_none aside nothing)
took_line may (too_long name) out aside none undone ends nothing took = (line_of (too_long name), [], ends, took, took_none aside nothing)
took_line may (source_refused error) out aside none undone ends nothing took = (line_of (source_refused error), [], ends, took, took_none aside nothing)
took_line may (unbuilt line) out aside none undone ends nothing took = (line_of (unbuilt line), [], ends, took, took_none aside nothing)

put_line : (said : PlainStatus) (sink : SinkChange) (line : List ℕ) → NotDone said → sink.put (line ∷ []) → PutPart said sink line
put_line done sink line undone put = absurd (undone refl)
put_line words sink line undone put = put
put_line (setup_refused refusal) sink line undone put = put
put_line (listing_refused error) sink line undone put = put
put_line (conflict cycle bank port) sink line undone put = put
put_line (cycles_spent cycles) sink line undone put = put
put_line (stopped_at kind at) sink line undone put = put
put_line (turns_spent turns) sink line undone put = put
put_line read_fault sink line undone put = put
put_line (write_fault which) sink line undone put = put
put_line memory sink line undone put = put
put_line (too_long name) sink line undone put = put
put_line (source_refused error) sink line undone put = put
put_line (unbuilt number) sink line undone put = put

puts_line : (may : Ends) (said result : PlainStatus) (out aside : SinkChange) → NoFault may → NotDone said → may said (line_of said) [] → TookNothing aside
    → Puts said result (line_of said) out → Records may out aside result
puts_line may said result out aside none undone ends nothing (inl p) =
    subst (λ (r : PlainStatus). Records may out aside r) (sym p.0) (took_line may said out aside none undone ends nothing p.1)
puts_line may said result out aside none undone ends nothing (inr p) =
    subst (λ (r : PlainStatus). Records may out aside r) (sym p.0)
    (said, line_of said, [], ends, took_none aside nothing, p.1, put_line said out (line_of said) undone p.2)

-- a refusal was put
pub refused : (may : Ends) (status result : PlainStatus) (out aside : SinkChange) → NoFault may → NotDone status → may status (line_of status) []
    → (HasParts status → may memory (line_of memory) []) → TookNothing aside → Refuses status result out → Records may out aside result
refused may status result out aside none undone ends ends_memory nothing (said, inl e, puts) =
    puts_line may said result out aside none (subst NotDone (sym e) undone) (subst (λ (s : PlainStatus). may s (line_of s) []) (sym e) ends) nothing puts
refused may status result out aside none undone ends ends_memory nothing (said, inr both, puts) =
    puts_line may said result out aside none (subst NotDone (sym both.1) (λ same. cc)) (subst (λ (s : PlainStatus). may s (line_of s) []) (sym both.1) (ends_memory both.0)) nothing puts
