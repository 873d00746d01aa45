-- The law of cutting (A.4).
use Rattle.bundle.proofs.CutBundles.{cut-bundle}
use Rattle.verdict.specs.Cutting.{LawOfCutting}
use Rattle.verdict.proofs.CutRaces.{cut-races}

pub law-of-cutting : LawOfCutting
law-of-cutting b c bytes a k =
    let left = cut-bundle b c bytes a k in
    record { accepted = left.0; races = cut-races b c a left.0 left.1 }
