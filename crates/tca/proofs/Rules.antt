-- What the rows of an accepted shape are walked by.
use Rattle.terms.proofs.Scan.{bytes-closed}

pub ruleset walked = (bytes-closed)
