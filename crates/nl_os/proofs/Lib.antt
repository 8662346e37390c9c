mod PathLemmas
mod RightsLemmas
mod RenewalLemmas
