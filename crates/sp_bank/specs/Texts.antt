-- What an error of a certificate is printed as.
use Rattle.std.specs.Prelude.{ℕ, List, ◌++◌, codes, decimal}
use Rattle.sp_bank.specs.declared.certificate.CertError.{CertError}
use Rattle.sp_bank.specs.declared.certificate.CertError.TheVariants.{Pair, Memory}

abbrev pub error_text : CertError → List ℕ
error_text (Pair first second) = codes "accesses " ++ (decimal first ++ (codes " and " ++ (decimal second ++ codes " are not separated")))
error_text Memory = codes "out of memory"
