use Rattle.sabr_laws.proofs.FewerContacts.{lost_contacts_take_their_routes}
use Rattle.sabr_laws.proofs.laws.lost_contacts_take_their_routes.Goals as goal

pub returns : goal.returns
returns c = lost_contacts_take_their_routes
