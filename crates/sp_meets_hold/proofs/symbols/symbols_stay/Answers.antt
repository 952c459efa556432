use Rattle.sp_meets_hold.proofs.SymbolsRuns.{all_kept}
use Rattle.sp_meets_hold.proofs.symbols.symbols_stay.Goals as goal

pub returns : goal.returns
returns c = all_kept
