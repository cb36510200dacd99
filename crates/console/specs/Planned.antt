-- A session in which power will go.
use Rattle.std.specs.Prelude.{Some}
use Rattle.orders.specs.declared.order.Cut.{Cut}
use Rattle.console.specs.declared.session.Session.{Session}

abbrev pub planned : {M : Type 0} → Session M → Cut → Session M
planned s cut = record s { cut = Some cut }
