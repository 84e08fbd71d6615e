-- What calls over lanes ask, one fact after another.

pub asked : {A B C D E : Type 0} → A → B → C → D → E → A × (B × (C × (D × E)))
asked a b c d e = (a, (b, (c, (d, e))))
