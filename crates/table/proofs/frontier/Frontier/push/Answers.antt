use Rattle.search.proofs.Queuing.{offered_for}
use Rattle.table.proofs.frontier.Frontier.push.Goals as goal

pub invariant_of-self : goal.invariant_of-self
invariant_of-self c = (offered_for _ _ _ _ c.self.view_is c.self.invariant c.requires.low c.if-self-i-ne0.false c.requires.back _ c.link_to-link.ensures).grew.sound

pub returns-clause-offered : goal.returns-clause-offered
returns-clause-offered c = offered_for _ _ _ _ c.self.view_is c.self.invariant c.requires.low c.if-self-i-ne0.false c.requires.back _ c.link_to-link.ensures
