use Rattle.bonds.proofs.Rolling.{stub_is}
use Rattle.bonds.proofs.terms.Terms.has_stub.Goals as goal

pub returns : goal.returns
returns c = let k = stub_is c.args.self.now c.args.n c.shifted.result c.requires.all c.shifted.ensures in cc
