-- Rows that no name touches stand.
use Rattle.layout.specs.declared.Row.{Row as Line}
use Rattle.put.specs.Put.{Clear}
use Rattle.put.proofs.Once.{clear-stands}
use Rattle.put.proofs.Skipping.{skips-as}
use Rattle.put.proofs.puts.ManyPuts.skip.Goals as goal

pub returns : goal.returns
returns c =
    let s = c.args.self.now in
    skips-as (λ (r : Line) (k : Clear s.range r). clear-stands s.names.now s.bounds.now s.range c.requires.ready.2 r k) c.skip.ensures
