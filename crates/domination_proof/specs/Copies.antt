-- A certificate as the numbers of what a search found.
use Rattle.std.specs.Prelude.{map}
use Rattle.label_search.specs.declared.label.Label.{Label}
use Rattle.label_search.specs.declared.label.Found.{Found}
use Rattle.certificate_text.specs.declared.certificate.CertLabel.{CertLabel}
use Rattle.certificate_text.specs.declared.certificate.Certificate.{Certificate}

-- the numbers of a label
abbrev pub cert_label : {S : Type 0} → Label S → CertLabel
cert_label label = record { parent = label.parent; choice = label.choice; links = label.links }

-- the numbers of what was found
abbrev pub cert_of : {S : Type 0} → Found S → Certificate
cert_of found =
    record {
      labels = map cert_label found.labels;
      finals = found.finals;
      goal_links = found.goal_links;
    }
