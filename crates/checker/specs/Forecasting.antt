-- What a line adds to the forecasts, and what lines come to.
use Rattle.std.specs.Prelude.{ℕ, ◌+◌, ◌*◌, min, max}
use Rattle.remora.specs.Shapes.{size}
use Rattle.remora.specs.Forecasts.{if_any}
use Rattle.lines.specs.declared.given.Kind.{Kind}
use Rattle.lines.specs.declared.given.Kind.TheVariants.{Literal, Parameter, Frame, Operator, Call, Fold, Append, Reverse}
use Rattle.shapes.specs.Axes.{dims}
use Rattle.typing.specs.declared.found.Entry.{Entry}
use Rattle.checker.specs.declared.rows.Row.{Row}
use Rattle.checker.specs.declared.forecasts.Share.{Share}
use Rattle.checker.specs.declared.forecasts.Forecast.{Forecast}

-- What a line of this kind adds that has so many atoms and cells, and calls a formula of which this is known.
abbrev pub share_for : Kind → ℕ → ℕ → Entry → Share
share_for Literal atoms cells e = record { steps = 1; atoms = atoms; behind = 0; depth = 0 }
share_for Parameter atoms cells e = record { steps = 1; atoms = 0; behind = 0; depth = 0 }
share_for Frame atoms cells e = record { steps = 1; atoms = atoms; behind = 0; depth = 0 }
share_for Operator atoms cells e = record { steps = 1; atoms = atoms; behind = 0; depth = 0 }
share_for Call atoms cells e = record { steps = 1 + cells * (1 + e.steps); atoms = atoms; behind = if_any cells e.room; depth = e.depth }
share_for Fold atoms cells e = record { steps = 1; atoms = atoms; behind = 0; depth = 0 }
share_for Append atoms cells e = record { steps = 1; atoms = atoms; behind = 0; depth = 0 }
share_for Reverse atoms cells e = record { steps = 1; atoms = atoms; behind = 0; depth = 0 }

-- What a line adds.
abbrev pub share_of : Entry → Row → Share
share_of e r = share_for r.given.fields.kind (min (size (dims r.found.array.shape)) 4294967295) r.found.cells e

-- The forecast of no lines.
abbrev pub no_forecast : Forecast
no_forecast = record { steps = 0; place = 0; most = 0; depth = 0 }

-- A forecast with what one more line adds.
abbrev pub added : Forecast → Share → Forecast
added f s = record { steps = f.steps + s.steps; place = f.place + s.atoms; most = max f.most (f.place + s.atoms + s.behind); depth = max f.depth s.depth }

-- The room of lines.
abbrev pub room_in : Forecast → ℕ
room_in f = max f.most f.place
