use Rattle.leases.proofs.Looks.{look_before_telling}
use Rattle.leases.proofs.laws.looks_before_tellings.Goals as goal

pub returns : goal.returns
returns c pair term clock notice beat look sound falls pace by_rule beaten answered =
    look_before_telling pair term clock notice sound falls pace by_rule beat beaten look answered
