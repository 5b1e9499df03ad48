-- The last step for functions with proofs of their own: a call of a function does what its code does.
use seplogic.Ra.Ura.{Ura}
use mir.Syntax.{Fn}
use prog.Wp.{WpFn, Closed}
use prog.Model.{Model}
use prog.Routine.{Callee}
use types.Logic.{Logic}
use contract.Running.{Running, tables}
use denote.Triple.Statement.{Contract, Triple}
use denote.Triple.Table.{entered}

pub of_code : {M : Type 1} (𝓤 : Ura M) (𝓛 : Logic 𝓤) (𝓜 : Model 𝓤 𝓛.H) (𝓡 : Running 𝓤 𝓛.H 𝓜) (k : Callee) (e : Fn) (c : Contract 𝓤)
    → Closed 𝓤 𝓛.H (tables 𝓤 𝓛.H 𝓜 𝓡 𝓡.env).C (tables 𝓤 𝓛.H 𝓜 𝓡 𝓡.env).Λ k e
    → Triple 𝓤 (WpFn 𝓤 𝓛.H (tables 𝓤 𝓛.H 𝓜 𝓡 𝓡.env).C (tables 𝓤 𝓛.H 𝓜 𝓡 𝓡.env).Λ e) c
    → Triple 𝓤 ((tables 𝓤 𝓛.H 𝓜 𝓡 𝓡.env).C k) c
of_code 𝓤 𝓛 𝓜 𝓡 k e c closed = entered 𝓤 𝓛.H c (tables 𝓤 𝓛.H 𝓜 𝓡 𝓡.env).C (tables 𝓤 𝓛.H 𝓜 𝓡 𝓡.env).Λ k e closed
