-- What is posted of a closed port.
use Rattle.std.proofs.Common.{◌≡◌, ◌∙◌, List, Bool, Option, Some, None, refl, ap}
use Rattle.std.proofs.lemmas.List.{append-nil}
use Rattle.lpc_base.specs.Rows.{given}
use Rattle.lpc_model.specs.declared.entry.Entry.{Entry}
use Rattle.lpc_model.specs.Close.{post_closed, closing_post}
use Rattle.lpc_model.specs.Entering.{enter}
use Rattle.lpc_model.specs.Found.{port_row}
use Rattle.lpc_model.specs.World.{Birth, MessageRow, PortRow, World}
use Rattle.lpc_rows.specs.Does.{Left, left_by}

-- the message of a port that is told of enters its queue; of another port nothing is posted
pub posted : (w : World) (b : Birth) (p : PortRow) (o : Option MessageRow) → port_row w b ≡ Some p → closing_post w p ≡ o → post_closed b w ≡ given o (λ m. enter m w)
posted w b p o row told = ap (λ (q : Option PortRow). given q (λ p. given (closing_post w p) (λ m. enter m w))) row ∙ ap (λ (o : Option MessageRow). given o (λ m. enter m w)) told

pub unposted : (w : World) (b : Birth) (p : PortRow) (es : List Entry) (loose : Bool) → port_row w b ≡ Some p → closing_post w p ≡ None
    → (let l : Left = record { world = w; entries = es; loose = loose } in l ≡ left_by w es loose (post_closed b w))
unposted w b p es loose row told = rw (posted w b p None row told, append-nil es) refl
